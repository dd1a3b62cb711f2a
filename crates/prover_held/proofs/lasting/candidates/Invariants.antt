use Rattle.std.proofs.Common.{◌≡◌, ℕ, ◌<◌, length}
use Rattle.std.specs.Prelude.{IsTrue, ◌↔◌}
use Rattle.netlist.specs.Valuations.{bit}
use Rattle.prover_held.specs.Judged.{IsCandidate}
use Rattle.prover_held.proofs.lasting.candidates.Given as goal

abbrev pub invariant-loop-number : goal.invariant-loop-number
invariant-loop-number l = record {
  long : length l.kept ≡ l.number;
  each : (k : ℕ) → k < l.number → IsTrue (bit l.kept k) ↔ IsCandidate l.netlist l.automaton k;
}
