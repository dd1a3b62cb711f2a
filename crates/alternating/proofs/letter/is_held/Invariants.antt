use Rattle.std.proofs.Common.{◌≡◌, drop}
use Rattle.alternating.specs.Packed.{held_from, is_held}
use Rattle.alternating.proofs.letter.is_held.Given as goal

abbrev pub invariant-loop-place : goal.invariant-loop-place
invariant-loop-place l = is_held (held_from l.place l.letter (drop l.place l.atoms)) l.atom ≡ is_held (held_from 0 l.letter l.atoms) l.atom
