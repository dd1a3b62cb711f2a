-- Signals that are kept while a cone is found.
use Rattle.std.specs.Prelude.{◌≡◌, ℕ, Bool as Truth, List, ◌++◌, count_by, length, Contains, IsTrue}
use Rattle.netlist.specs.Design.{Design}
use Rattle.netlist.specs.Valuations.{bit}
use Rattle.gates_frames.specs.Frames.{Cone, IsClosed}
use Rattle.gates_cone.specs.Cones.{HasAll, IsIn}

-- the signals that are kept are listed, each once
pub record AreListed (kept : List Truth) (found : List ℕ) : Type 0 where
  pub each : (signal : ℕ) → IsTrue (bit kept signal) → Contains found signal
  pub are : HasAll (bit kept) found
  pub once : length found ≡ count_by (λ value. value) kept

-- some signals more are kept, and no others
pub record Keeps (old new : List Truth) (signals : List ℕ) : Type 0 where
  pub stay : IsIn (bit old) (bit new)
  pub has : HasAll (bit new) signals
  pub only : (other : Cone) → IsIn (bit old) other → HasAll other signals → IsIn (bit new) other

-- a list goes on
pub record GoesOn (old new : List ℕ) : Type 0 where
  pub more : List ℕ
  pub is : new ≡ old ++ more

-- what feeds the kept signals is kept, and no others
pub record Spreads (design : Design) (old new : List Truth) : Type 0 where
  pub stay : IsIn (bit old) (bit new)
  pub closed : IsClosed design (bit new)
  pub only : (other : Cone) → IsClosed design other → IsIn (bit old) other → IsIn (bit new) other
