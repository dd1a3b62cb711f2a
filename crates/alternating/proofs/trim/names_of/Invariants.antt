use Rattle.std.proofs.Common.{◌≡◌, ◌<◌, ℕ, length, slice_index}
use Rattle.sere_nfa.specs.Marking.{is_marked}
use Rattle.alternating_theory.specs.Trimmed.{count_below}
use Rattle.alternating.proofs.trim.names_of.Given as goal

abbrev pub invariant-loop-marked : goal.invariant-loop-marked
invariant-loop-marked l = record {
  same_length : length l.names.items ≡ l.marked-index;
  each : (number : ℕ) → number < l.marked-index → slice_index l.names.items number ≡ count_below number (is_marked l.marks);
  counted : l.count ≡ count_below l.marked-index (is_marked l.marks);
}
