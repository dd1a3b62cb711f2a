use Rattle.std.proofs.Common.{◌≡◌, ◌<◌, ℕ, length}
use Rattle.sere_nfa.specs.Marking.{is_marked}
use Rattle.alternating_theory.specs.Merged.{class_in, is_first}
use Rattle.alternating.proofs.merge.firsts.Given as goal

abbrev pub invariant-loop-number : goal.invariant-loop-number
invariant-loop-number l = record {
  same_length : length l.marks.items ≡ l.number;
  each : (number : ℕ) → number < l.number → is_marked l.marks.items number ≡ is_first (class_in l.classes) number;
}
