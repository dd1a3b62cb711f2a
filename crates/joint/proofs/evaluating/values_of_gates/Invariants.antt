use Rattle.std.proofs.Common.{◌≡◌, length, take}
use Rattle.std.specs.Prelude.{IsTrue}
use Rattle.gates_theory.specs.Circuits.{gates_hold}
use Rattle.run_terms.specs.Formulas.{values_of}
use Rattle.joint.proofs.evaluating.values_of_gates.Given as goal

abbrev pub invariant-loop-place : goal.invariant-loop-place
invariant-loop-place l = record {
  long : length l.values ≡ l.place;
  hold : IsTrue (gates_hold (values_of l.values) 0 (take l.place l.gates));
}
