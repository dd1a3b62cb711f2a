-- The least closed cone that contains some signals.
use Rattle.std.specs.Prelude.{ℕ, List, ◌++◌, map, All, IsTrue}
use Rattle.netlist.specs.Design.{Design}
use Rattle.gates_frames.specs.Frames.{Cone, IsClosed}

-- all signals of one cone are in another
abbrev pub IsIn : Cone → Cone → Type 0
IsIn cone other = (signal : ℕ) → IsTrue (cone signal) → IsTrue (other signal)

-- some signals are in a cone
abbrev pub HasAll : Cone → List ℕ → Type 0
HasAll cone signals = All (λ signal. IsTrue (cone signal)) signals

-- a closed cone that contains some signals, and that is in each other one
pub record IsLeast (design : Design) (signals : List ℕ) (cone : Cone) : Type 0 where
  pub has : HasAll cone signals
  pub closed : IsClosed design cone
  pub least : (other : Cone) → IsClosed design other → HasAll other signals → IsIn cone other

-- some signals, and the outputs of all latches
abbrev pub with_latches : Design → List ℕ → List ℕ
with_latches design signals = signals ++ map (λ latch. latch.output) design.latches
