use Rattle.std.proofs.Common.{◌≡◌, ℕ, ◌<◌, length}
use Rattle.alternating_theory.specs.Obligations.{obligation_at}
use Rattle.alternating_theory.specs.Positive.{met}
use Rattle.netlist.specs.Valuations.{bit}
use Rattle.prover_held.specs.Lasting.{letter_in}
use Rattle.prover_held.proofs.judge.asked_at.Given as goal

abbrev pub invariant-loop-number : goal.invariant-loop-number
invariant-loop-number l = record {
  long : length l.found ≡ l.number;
  each : (k : ℕ) → k < l.number → bit l.found k ≡ met (obligation_at l.automaton.obligations k).delta (letter_in l.netlist l.path l.place) (bit l.next);
}
