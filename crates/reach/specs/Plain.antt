-- The queries that come up: no clause stands twice, no literal stands twice or beside its negation in a clause or in the
-- cube, and but for the first query, each initial state meets the clauses.
use Rattle.std.specs.Prelude.{ℤ, List, IsTrue}
use Rattle.joint.specs.Joined.{Joined}
use Rattle.joint_theory.specs.Bits.{joint_width}
use Rattle.joint_theory.specs.Sets.{is_met}
use Rattle.joint_theory.specs.States.{IsState, IsInitial}
use Rattle.joint_theory.specs.declared.path.JointState.{JointState}
use Rattle.reach_frames.specs.Cubes.{IsCube, IsFrame}
use Rattle.reach_frames.specs.declared.stop.ReachQuery.{ReachQuery}
use Rattle.reach_frames.specs.declared.stop.ReachQuery.TheVariants.{Initial, Step, Bad, Relative}

-- clauses of literals of the state bits, none of which stands twice or beside its negation; and no clause stands twice
abbrev pub AreClauses : Joined → List (List ℤ) → Type 0
AreClauses joined clauses = IsFrame (joint_width joined.design joined.automaton joined.visits) clauses

-- and every initial state meets them
pub record AreKept (joined : Joined) (clauses : List (List ℤ)) : Type 0 where
  pub are : AreClauses joined clauses
  pub begun : (state : JointState) → IsState joined.design joined.automaton joined.visits state
      → IsInitial joined.design joined.automaton state
      → IsTrue (is_met joined.design joined.automaton joined.visits clauses state)

abbrev pub IsPlain : Joined → ReachQuery → Type 0
IsPlain joined (Initial clauses) = AreClauses joined clauses
IsPlain joined (Step clauses) = AreKept joined clauses
IsPlain joined (Bad clauses) = AreKept joined clauses
IsPlain joined (Relative frame initial cube) =
    AreKept joined frame × IsCube (joint_width joined.design joined.automaton joined.visits) cube
