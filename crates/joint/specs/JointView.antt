-- How contracts see the joint states.
use Rattle.std.specs.Prelude.{◌≡◌, ◌≤◌, length}
use Rattle.clauses.specs.declared.flat.TheConstants.{MOST_VARIABLES}
use Rattle.joint.specs.Joined.{Joined}
use Rattle.joint.specs.declared.joined.Joint.TheInside.{Inside}
use Rattle.joint_theory.specs.Queries.{joint_circuit}
use Rattle.run_terms.specs.Automata.{TestsSignals}

abbrev pub joined_of : Inside → Joined
joined_of joint = record {
  design = joint.product.netlist.now;
  automaton = joint.product.violation.now;
  visits = joint.product.visits;
}

-- the circuit is that of the joint states, and the automaton tests signals of the netlist
pub record IsJoined (joint : Inside) : Type 0 where
  pub circuit : joint.circuit ≡ joint_circuit joint.product.netlist.now joint.product.violation.now joint.product.visits
  pub few : length joint.circuit.gates ≤ MOST_VARIABLES
  pub tests : TestsSignals joint.product.netlist.now joint.product.violation.now
  pub visits : joint.product.visits ≤ 16
