use Rattle.std.proofs.Common.{◌≡◌, length}
use Rattle.alternating_blocks.proofs.step.each_step.Given as goal
use Rattle.alternating_blocks.specs.Values.{HasLengths, StepsAllTo}

abbrev pub invariant-loop-place : goal.invariant-loop-place
invariant-loop-place l = record {
  steps : StepsAllTo l.place l.automaton l.letters.atoms.now l.letters.columns.now l.fn.values l.values;
  lengths : HasLengths l.automaton l.values;
  next_lengths : HasLengths l.automaton l.next;
  letter_len : length l.letter ≡ length l.letters.columns.now;
}
