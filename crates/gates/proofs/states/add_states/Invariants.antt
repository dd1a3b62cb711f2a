use Rattle.std.proofs.Common.{◌≡◌, ◌++◌, length}
use Rattle.gates_theory.specs.Distinct.{distinct}
use Rattle.gates.proofs.states.add_states.Given as goal

abbrev pub invariant-loop-later : goal.invariant-loop-later
invariant-loop-later l = record {
  added : l.clauses ≡ l.initial.clauses ++ distinct l.circuit l.variables l.later;
  buffer : length l.buffer ≡ length l.initial.buffer;
}
