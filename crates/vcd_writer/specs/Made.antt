-- The recording that is made: its text, and the values that it has at its samples.
use Rattle.std.specs.Prelude.{ℕ, Bool, List, [], ◌∷◌, ◌++◌, map, codes}
use Rattle.std.specs.List.{range_with_len}
use Rattle.psl_tree.specs.declared.name.Name.{Name}
use Rattle.vcd_writer.specs.Generator.{request_at, answer_at}
use Rattle.vcd_writer.specs.Lines.{letters_of, line, samples_from}
use Rattle.vcd_reader.specs.declared.unknown.Unknown.{Unknown}
use Rattle.vcd_reader.specs.Meaning.{places_in}
use Rattle.vcd_reader.specs.Sampled.{Sampled}

-- the definitions: one signal `req` with the code `!`, and one signal `ack` with the code `"`
abbrev pub definitions : List ℕ
definitions = line (codes "$var wire 1 ! req $end") ++ line (codes "$var wire 1 \" ack $end") ++ line (codes "$enddefinitions $end")

abbrev pub made_codes : List (List ℕ)
made_codes = (33 ∷ []) ∷ (34 ∷ []) ∷ []

-- the values of both signals at a sample
abbrev pub made_values : ℕ → ℕ → List Bool
made_values seed sample = request_at seed sample ∷ answer_at seed sample ∷ []

-- the whole text
abbrev pub made_text : ℕ → ℕ → List ℕ
made_text seed samples = definitions ++ samples_from made_codes (made_values seed) 0 samples

-- its names
abbrev pub made_names : List Name
made_names = record { text = codes "req"; signal = 0; left = 0; right = 0 } ∷ record { text = codes "ack"; signal = 1; left = 0; right = 0 } ∷ []

-- what the text says: its times are the numbers of its samples; where these begin is left to the text
abbrev pub made_sampled : Unknown → ℕ → ℕ → Sampled
made_sampled unknown seed samples = record {
  names = made_names;
  samples = map (λ sample. letters_of (made_values seed sample)) (range_with_len 0 samples);
  times = range_with_len 0 samples;
  places = places_in (made_text seed samples);
  unknown = unknown;
}
