use Rattle.std.proofs.Common.{◌≡◌, take}
use Rattle.std.specs.Prelude.{filter}
use Rattle.psl_tree.specs.Letters.{atom_at, atoms_of}
use Rattle.netlist.specs.Runs.{bits_of}
use Rattle.netlist.proofs.word.atoms_at.Given as goal

abbrev pub invariant-loop-name : goal.invariant-loop-name
invariant-loop-name l = l.atoms ≡ filter (atom_at (bits_of l.run) l.place) (atoms_of (take l.name-index l.names))
