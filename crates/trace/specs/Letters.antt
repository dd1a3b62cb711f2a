-- The letters that a recording has over the names of a netlist.
use Rattle.std.specs.Prelude.{List, map, length}
use Rattle.std.specs.List.{range_with_len}
use Rattle.psl_tree.specs.Letters.{letter_at}
use Rattle.psl_tree.specs.declared.letter.Letter.{Letter}
use Rattle.psl_tree.specs.declared.name.Name.{Name}
use Rattle.vcd_reader.specs.Sampled.{Sampled, bit_at}

-- for each sample the atoms of the names that hold there
abbrev pub letters_over : List Name → Sampled → List Letter
letters_over names recording = map (letter_at (bit_at recording) names) (range_with_len 0 (length recording.samples))
