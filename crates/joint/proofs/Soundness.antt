-- What holds of the circuit of the joint states.
use Rattle.std.proofs.Common.{◌≡◌, ℕ, ◌≤◌, length, sym, subst, arith}
use Rattle.std.specs.Prelude.{IsTrue}
use Rattle.alternating_theory.specs.Obligations.{Automaton}
use Rattle.gates_theory.specs.declared.circuit.Circuit.{Circuit}
use Rattle.gates_theory.specs.Circuits as circuits
use Rattle.gates_theory.proofs.Chains.{relation-sound}
use Rattle.clauses.specs.Literals.{clause_within}
use Rattle.netlist.specs.Design.{Design}
use Rattle.netlist.specs.Sound as netlists
use Rattle.run_terms.specs.Automata as automata
use Rattle.run_terms.specs.Automata.{TestsSignals}
use Rattle.joint_theory.specs.Bits.{joint_width}
use Rattle.joint_theory.specs.Queries.{joint_circuit, joint_size, start_literals}
use Rattle.joint_theory.specs.Relation.{joint}
use Rattle.joint_theory.proofs.QueryWithin.{width-fits}
use Rattle.joint_theory.proofs.Within.{joint-closed, start-within}

module _ (design : Design) (automaton : Automaton) (visits : ℕ) (sound : netlists.IsSound design) (right : automata.IsSound automaton) (tests : TestsSignals design automaton)
    (circuit : Circuit) (is : circuit ≡ joint_circuit design automaton visits) where
  pub is-sound : circuits.IsSound circuit
  is-sound = subst circuits.IsSound (sym is) (relation-sound (joint design automaton visits) (joint-closed design automaton visits sound right tests))

  pub is-wide : joint_width design automaton visits ≤ length circuit.gates
  is-wide = subst (λ (c : Circuit). joint_width design automaton visits ≤ length c.gates) (sym is) (omega (arith, width-fits design automaton visits sound right tests))

  pub start-is_within : IsTrue (clause_within (length circuit.gates) (start_literals design automaton visits))
  start-is_within =
      subst (λ (c : Circuit). IsTrue (clause_within (length c.gates) (start_literals design automaton visits))) (sym is)
      (start-within design automaton visits sound right tests (joint_size design automaton visits) (width-fits design automaton visits sound right tests))
