use Rattle.std.proofs.Common.{◌≡◌, ◌<◌, ℕ, length}
use Rattle.std.specs.Prelude.{slice_index}
use Rattle.alternating_blocks.proofs.letters.Letters.tell.Given as goal
use Rattle.alternating_blocks.specs.Block.{TellsBoolean}
use Rattle.alternating_blocks.specs.Plan.{test_at}

abbrev pub invariant-loop-number : goal.invariant-loop-number
invariant-loop-number l = record {
  into_len : length l.into ≡ length l.tests;
  told : (number : ℕ) → number < l.number → TellsBoolean l.self.atoms.now l.self.columns.now (test_at l.tests number) (slice_index l.into number);
}
