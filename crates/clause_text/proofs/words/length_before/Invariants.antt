use Rattle.std.proofs.Common.{◌≡◌, true, take}
use Rattle.clause_text.specs.Lines.{lacks}
use Rattle.clause_text.proofs.words.length_before.Given as goal

abbrev pub invariant-loop-place : goal.invariant-loop-place
invariant-loop-place l = lacks l.mark (take l.place l.text) ≡ true
