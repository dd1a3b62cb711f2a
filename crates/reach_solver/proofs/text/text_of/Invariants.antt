use Rattle.std.proofs.Common.{◌≡◌, take}
use Rattle.reach_solver.specs.Texts.{text_of}
use Rattle.reach_solver.proofs.text.text_of.Given as goal

abbrev pub invariant-loop-place : goal.invariant-loop-place
invariant-loop-place l = l.text ≡ text_of (take l.place l.formula.clauses)
