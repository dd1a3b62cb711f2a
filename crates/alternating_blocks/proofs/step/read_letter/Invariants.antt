use Rattle.std.proofs.Common.{◌≡◌, ◌<◌, ℕ, length}
use Rattle.std.specs.Prelude.{slice_index}
use Rattle.alternating.specs.Packed.{bit}
use Rattle.alternating.specs.Stepped.{value_at}
use Rattle.alternating_blocks.proofs.step.read_letter.Given as goal

abbrev pub invariant-loop-number : goal.invariant-loop-number
invariant-loop-number l = record {
  letter_len : length l.letter ≡ length l.columns;
  bits : (number : ℕ) → number < l.number → value_at l.letter number ≡ bit (slice_index l.columns number) l.place;
}
