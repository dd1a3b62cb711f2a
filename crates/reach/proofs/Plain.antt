-- Queries speak of the bits of a state, and those that come up are plain.
use Rattle.std.proofs.Common.{◌≡◌, refl, ℕ, ℤ, Bool as Truth, true, List, [], ◌∷◌, arith}
use Rattle.std.specs.Prelude.{IsTrue}
use Rattle.std.proofs.lemmas.List.Elements.{All-cons, All-nil, All-weaker}
use Rattle.std.proofs.lemmas.List.Sums.{list_all-from_AllPass}
use Rattle.clauses.specs.Literals.{clause_within, clauses_within}
use Rattle.joint.specs.Joined.{Joined}
use Rattle.joint_theory.specs.Bits.{joint_width, state_bits}
use Rattle.joint_theory.specs.States.{IsInitial, IsState}
use Rattle.joint_theory.specs.declared.path.JointState.{JointState}
use Rattle.reach_frames.proofs.Negations.{negated-IsCube}
use Rattle.reach_frames.specs.Bits.{is_met}
use Rattle.reach_frames.specs.Cubes.{negated, IsCube, IsFrame}
use Rattle.reach_frames.specs.Systems.{IsInvariant}
use Rattle.reach_frames.specs.declared.stop.ReachQuery.{ReachQuery}
use Rattle.reach_frames.specs.declared.stop.ReachQuery.TheVariants.{Initial, Step, Bad, Relative}
use Rattle.reach.specs.Formulas.{IsWithin}
use Rattle.reach.specs.Plain.{AreKept, IsPlain}
use Rattle.reach.specs.Systems.{system_of, BeginsAs}

pub frame-within : (width : ℕ) (clauses : List (List ℤ)) → IsFrame width clauses → IsTrue (clauses_within width clauses)
frame-within width clauses is =
    list_all-from_AllPass (clause_within width) clauses
    (All-weaker (IsCube width) (λ clause. clause_within width clause ≡ true) (λ clause cube. cube.within) clauses is.each)

pub query-within : (joined : Joined) (query : ReachQuery) → IsPlain joined query → IsWithin joined query
query-within joined (Initial clauses) plain =
    frame-within (joint_width joined.design joined.automaton joined.visits) clauses plain
query-within joined (Step clauses) plain =
    frame-within (joint_width joined.design joined.automaton joined.visits) clauses plain.are
query-within joined (Bad clauses) plain =
    frame-within (joint_width joined.design joined.automaton joined.visits) clauses plain.are
query-within joined (Relative frame initial cube) plain =
    (frame-within (joint_width joined.design joined.automaton joined.visits) frame plain.0.are, plain.1.within)

-- an initial state begins, as its bits
pub begins-as : (joined : Joined) (state : JointState) → IsState joined.design joined.automaton joined.visits state
    → IsInitial joined.design joined.automaton state
    → BeginsAs joined (state_bits joined.design joined.automaton joined.visits state)
begins-as joined state is initial = record {
  state = state;
  bits_of = record { is = is; same = refl };
  initial = initial;
}

-- clauses that every state meets which begins
pub are-kept : (joined : Joined) (clauses : List (List ℤ))
    → IsFrame (joint_width joined.design joined.automaton joined.visits) clauses
    → ((bits : List Truth) → BeginsAs joined bits → IsTrue (is_met clauses bits)) → AreKept joined clauses
are-kept joined clauses is begun = record {
  are = is;
  begun = λ state is initial.
      begun (state_bits joined.design joined.automaton joined.visits state) (begins-as joined state is initial);
}

pub invariant-kept : (joined : Joined) (clauses : List (List ℤ)) → IsInvariant (system_of joined) clauses → AreKept joined clauses
invariant-kept joined clauses is = are-kept joined clauses is.framed is.begun

-- the clause that keeps a cube out, alone
pub one-frame : (width : ℕ) (cube : List ℤ) → IsCube width cube → IsFrame width (negated cube ∷ [])
one-frame width cube is = record {
  each = All-cons (IsCube width) (negated cube) [] (negated-IsCube width cube is) (All-nil (IsCube width));
  once = λ i j other before below. absurd (omega arith);
}
