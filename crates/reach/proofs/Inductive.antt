-- An invariant of the system is inductive clauses, so that its queries have no model.
use Rattle.std.proofs.Common.{refl, ℤ, List}
use Rattle.joint.specs.Joined.{Joined}
use Rattle.joint_theory.proofs.Refuting.{inductive-models}
use Rattle.joint_theory.specs.Bits.{joint_width}
use Rattle.joint_theory.specs.Reaching.{AreRefuted}
use Rattle.joint_theory.specs.Sets.{IsInductive}
use Rattle.joint_theory.specs.States.{AreNeighbours}
use Rattle.joint_theory.specs.declared.path.JointState.{JointState}
use Rattle.netlist.specs.Sound as netlists
use Rattle.reach_frames.specs.Systems.{IsInvariant}
use Rattle.run_terms.specs.Automata as automata
use Rattle.run_terms.specs.Automata.{TestsSignals}
use Rattle.reach.specs.Systems.{system_of, FollowsAs}
use Rattle.reach.proofs.Plain.{begins-as, frame-within}
use Rattle.reach.proofs.States.{bad-of, bits_in, IsOf}

pub follows-as : (joined : Joined) (state next : JointState) → IsOf joined state → IsOf joined next
    → AreNeighbours joined.design joined.automaton joined.visits state next
    → FollowsAs joined (bits_in joined state) (bits_in joined next)
follows-as joined state next is is_next neighbours = record {
  state = state;
  next = next;
  bits_of = record { is = is; same = refl };
  next_of = record { is = is_next; same = refl };
  neighbours = neighbours;
}

pub inductive-of : (joined : Joined) (clauses : List (List ℤ)) → IsInvariant (system_of joined) clauses
    → IsInductive joined.design joined.automaton joined.visits clauses
inductive-of joined clauses is = record {
  initial = λ state is_state initial. is.begun (bits_in joined state) (begins-as joined state is_state initial);
  step = λ state next is_state is_next neighbours met.
      is.step (bits_in joined state) (bits_in joined next) met (follows-as joined state next is_state is_next neighbours);
  bad = λ state is_state bad. is.kept (bits_in joined state) (bad-of joined state is_state bad);
}

pub none-of : (joined : Joined) (clauses : List (List ℤ)) → netlists.IsSound joined.design → automata.IsSound joined.automaton
    → TestsSignals joined.design joined.automaton → IsInvariant (system_of joined) clauses
    → AreRefuted joined.design joined.automaton joined.visits clauses
none-of joined clauses sound right tests is =
    (inductive-models joined.design joined.automaton joined.visits sound right tests clauses
    (frame-within (joint_width joined.design joined.automaton joined.visits) clauses is.framed)).0 (inductive-of joined clauses is)
