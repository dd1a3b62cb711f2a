use Rattle.std.proofs.Common.{◌≡◌, ◌≤◌, length, reverse, take}
use Rattle.sat_dimacs.specs.Words as spec
use Rattle.sat_dimacs.proofs.words.begins_line.Given as goal

abbrev pub invariant-loop-place : goal.invariant-loop-place
invariant-loop-place l = (l.place ≤ length l.text) × (spec.begins_line (reverse (take l.fn.at l.text)) ≡ spec.begins_line (reverse (take l.place l.text)))

abbrev pub decreases-loop-place : goal.decreases-loop-place
decreases-loop-place l = l.place
