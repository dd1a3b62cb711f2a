-- The trace of a run: a recording of its first valuations, as text and as what it says.
use Rattle.std.specs.Prelude.{ℕ, ◌+◌, ◌-◌, ◌*◌, ◌%◌, nat_lt, Bool, if◌then◌else◌, List, [], ◌++◌, map, length, slice_index_or, Option, None, Some, codes}
use Rattle.std.specs.List.{flat_map, range_with_len}
use Rattle.netlist.specs.Design.{Design}
use Rattle.netlist.specs.declared.run.Run.{Run}
use Rattle.psl_tree.specs.Names.{first_name}
use Rattle.psl_tree.specs.declared.name.Name.{Name}
use Rattle.trace.specs.Codes.{code_of, codes_of}
use Rattle.trace.specs.Printed.{printed}
use Rattle.vcd_reader.specs.declared.unknown.Unknown.{Unknown}
use Rattle.vcd_reader.specs.Meaning.{places_in}
use Rattle.vcd_reader.specs.Sampled.{Sampled}
use Rattle.vcd_writer.specs.Lines.{letters_of, line, samples_from}

-- the valuations of a run, counted from 0: those of its stem, and then those of its loop for ever
abbrev pub valuation_in : Run → ℕ → List Bool
valuation_in run place =
    if nat_lt place (length run.stem) then slice_index_or run.stem place []
    else slice_index_or run.loop_part ((place - length run.stem) % length run.loop_part) []

-- how many valuations there are with the loop so many times
abbrev pub count_of : Run → ℕ → ℕ
count_of run loops = length run.stem + loops * length run.loop_part

-- the text of a name, where there is one
abbrev pub text_of : Option Name → List ℕ
text_of None = []
text_of (Some name) = name.text

-- the first name of a signal
abbrev pub first_text : List Name → ℕ → List ℕ
first_text names signal = text_of (first_name names signal)

-- the line that declares a signal of one bit, by its name and its number
abbrev pub declaration_of : List ℕ → ℕ → List ℕ
declaration_of name signal = line (codes "$var wire 1 " ++ code_of signal ++ codes " " ++ printed name ++ codes " $end")

abbrev pub declaration : List Name → ℕ → List ℕ
declaration names signal = declaration_of (first_text names signal) signal

abbrev pub declarations : List Name → ℕ → List ℕ
declarations names signals = flat_map (declaration names) (range_with_len 0 signals)

-- the definitions: the signals of a netlist in the order of their numbers
abbrev pub definitions : Design → List ℕ
definitions design = declarations design.names design.signals ++ line (codes "$enddefinitions $end")

-- The trace of a run: the definitions, and then, for each valuation of the stem and of the loop so many times, its
-- number from 0 as a time, and a line for each signal with its value and its code.
abbrev pub trace_text : Design → Run → ℕ → List ℕ
trace_text design run loops = definitions design ++ samples_from (codes_of design.signals) (valuation_in run) 0 (count_of run loops)

-- the names that the trace declares
abbrev pub name_in : List Name → ℕ → Name
name_in names signal = record { text = printed (first_text names signal); signal = signal; left = 0; right = 0 }

abbrev pub trace_names : Design → List Name
trace_names design = map (name_in design.names) (range_with_len 0 design.signals)

-- what the trace says: at each sample, whose time is its number, each signal has the value that it has in the valuation; where
-- its samples begin is left to the text
abbrev pub trace_sampled : Unknown → Design → Run → ℕ → Sampled
trace_sampled unknown design run loops = record {
  names = trace_names design;
  samples = map (λ sample. letters_of (valuation_in run sample)) (range_with_len 0 (count_of run loops));
  times = range_with_len 0 (count_of run loops);
  places = places_in (trace_text design run loops);
  unknown = unknown;
}
