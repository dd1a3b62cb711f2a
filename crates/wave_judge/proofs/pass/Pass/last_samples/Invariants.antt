use Rattle.std.proofs.Common.{◌≡◌, ◌≤◌, length}
use Rattle.wave_judge.proofs.Samples.{StandsAt}
use Rattle.wave_judge.proofs.pass.Pass.last_samples.Given as goal

abbrev pub invariant-loop-sample : goal.invariant-loop-sample
invariant-loop-sample l = record {
  above : l.from ≤ l.sample;
  stands : StandsAt l.self.automaton.now l.self.atoms.now l.self.recording.now l.count l.sample l.letter l.next l.now;
  hints_len : length l.hints.items ≡ length l.self.atoms.now;
}
