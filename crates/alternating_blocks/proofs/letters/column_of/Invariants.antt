use Rattle.std.proofs.Common.{◌≡◌, drop}
use Rattle.alternating_theory.specs.Atoms.{is_among}
use Rattle.alternating_blocks.proofs.letters.column_of.Given as goal

abbrev pub invariant-loop-number : goal.invariant-loop-number
invariant-loop-number l = is_among (drop l.number l.atoms) l.atom ≡ is_among l.atoms l.atom
