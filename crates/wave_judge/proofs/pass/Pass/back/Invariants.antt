use Rattle.std.proofs.Common.{◌≡◌, ◌*◌, ◌≤◌, length}
use Rattle.alternating_blocks.specs.Values.{HasLengths}
use Rattle.wave_judge.proofs.pass.Pass.back.Given as goal
use Rattle.wave_judge.specs.Values.{AreValuesAt}

abbrev pub invariant-loop-number : goal.invariant-loop-number
invariant-loop-number l = record {
  above : l.block ≤ l.number;
  here : AreValuesAt l.self.automaton.now l.self.recording.now l.count (64 * l.number) l.now;
  lengths : HasLengths l.self.automaton.now l.next;
  blocks_are : l.blocks ≡ l.self.automaton.now;
  columns_len : length l.columns.items ≡ length l.self.atoms.now;
  hints_len : length l.hints.items ≡ length l.self.atoms.now;
}
