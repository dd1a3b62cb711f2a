use Rattle.std.proofs.Common.{◌≡◌, length}
use Rattle.prover_bmc.proofs.debts.owed_by.Given as goal

abbrev pub invariant-loop-number : goal.invariant-loop-number
invariant-loop-number l = length l.marks.items ≡ length l.automaton.obligations
