-- The letters that a recording has over the names of a netlist, by the bits at which its signals are found.
use Rattle.std.specs.Prelude.{ℕ, Bool as Truth, List, map, length}
use Rattle.std.specs.List.{range_with_len}
use Rattle.netlist.specs.Design.{Design}
use Rattle.psl_tree.specs.Letters.{letter_at}
use Rattle.psl_tree.specs.declared.letter.Letter.{Letter}
use Rattle.replay.specs.Recorded.{value_at}
use Rattle.vcd_reader.specs.Sampled.{Sampled}

-- the value of the bit that a signal's first name stands for; a signal has one bit
abbrev pub found_bit : Design → Sampled → ℕ → ℕ → ℕ → Truth
found_bit design recording sample signal bit = value_at design recording sample signal

-- for each sample the atoms of the names that hold there
abbrev pub letters_found : Design → Sampled → List Letter
letters_found design recording = map (letter_at (found_bit design recording) design.names) (range_with_len 0 (length recording.samples))
