use Rattle.std.proofs.Common.{◌≡◌, ◌<◌, ℕ, length, slice_index}
use Rattle.alternating_theory.specs.Merged.{class_in}
use Rattle.alternating.proofs.merge.class_names.Given as goal

abbrev pub invariant-loop-class : goal.invariant-loop-class
invariant-loop-class l = record {
  same_length : length l.new.items ≡ l.class-index;
  each : (number : ℕ) → number < l.class-index → slice_index l.new.items number ≡ slice_index l.names (class_in l.classes number);
}
