-- Paths of valuations, and what frames show of them.
use Rattle.std.specs.Prelude.{◌≡◌, ℕ, suc, ◌<◌, ℤ, Bool as Truth, true, false, List, [], length, slice_index_or, IsTrue}
use Rattle.clauses.specs.Models.{Assignment, is_true}
use Rattle.netlist.specs.Design.{Design}
use Rattle.netlist.specs.Valuations.{bit, IsInitial, IsStep, IsValuation}
use Rattle.gates_nodes.specs.declared.cover.Cover.{Cover}
use Rattle.gates_nodes.specs.declared.node.Node.{Node}
use Rattle.gates_frames.specs.Frames.{Cone, frame_at, literal_at}

-- the valuation at a place, counted from 0
abbrev pub valuation_of : List (List Truth) → ℕ → List Truth
valuation_of path place = slice_index_or path place []

-- a path begins with an initial valuation, or with any
abbrev pub Begins : Design → Truth → List Truth → Type 0
Begins design true first = IsInitial design first
Begins design false first = IsValuation design first

-- valuations of which each may follow the one before
pub record IsPath (design : Design) (initial : Truth) (path : List (List Truth)) : Type 0 where
  pub some : 0 < length path
  pub begins : Begins design initial (valuation_of path 0)
  pub steps : (place : ℕ) → suc place < length path → IsStep design (valuation_of path place) (valuation_of path (suc place))

-- the bits of a path, by frame and signal
abbrev pub bits_along : List (List Truth) → ℕ → ℕ → Truth
bits_along path frame signal = bit (valuation_of path frame) signal

-- the literals of signals in the cone have the values of a valuation
abbrev pub Shows : ℕ → Cone → Assignment → List ℤ → List Truth → Type 0
Shows given cone values literals valuation =
    (signal : ℕ) → IsTrue (cone signal) → is_true values (literal_at given literals signal) ≡ bit valuation signal

-- the frames show a path
abbrev pub ShowsPath : List Cover → ℕ → Design → List ℕ → Cone → Truth → List Node → Assignment → List (List Truth) → Type 0
ShowsPath covers given design order cone initial nodes values path =
    (place : ℕ) → place < length path
    → Shows given cone values (frame_at covers given design order cone initial nodes place).literals (valuation_of path place)
