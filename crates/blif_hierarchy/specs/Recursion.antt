-- How the first placement that leads back is searched for.
use Rattle.std.specs.Prelude.{◌≡◌, ℕ, suc, ◌<◌, Bool, true, false, List, [], length, take, Option, Some, None, slice_index_or, slice_set}
use Rattle.netlist_order.specs.Graph.{Depends}
use Rattle.netlist_order.specs.Wires.{graph_of}

-- a list has each of so many numbers at its place
pub record IsItself (count : ℕ) (numbers : List (Option ℕ)) : Type 0 where
  pub size : length numbers ≡ count
  pub each : (number : ℕ) → number < count → slice_index_or numbers number None ≡ Some number

-- whether a model depends on itself
abbrev pub ComesBack : List (List ℕ) → List (Option ℕ) → ℕ → Bool → Type 0
ComesBack lists drivers model true = Depends (graph_of lists drivers) model model
ComesBack lists drivers model false = Depends (graph_of lists drivers) model model → ⊥

-- the lists, of which that of a model has so many numbers left
abbrev pub cut_at : List (List ℕ) → ℕ → ℕ → List (List ℕ)
cut_at lists model count = slice_set lists model (take count (slice_index_or lists model []))

-- with so many numbers left of its list a model does not depend on itself, and with one more it does
pub record IsLeast (lists : List (List ℕ)) (drivers : List (Option ℕ)) (model place : ℕ) : Type 0 where
  pub within : place < length (slice_index_or lists model [])
  pub back : Depends (graph_of (cut_at lists model (suc place)) drivers) model model
  pub before : Depends (graph_of (cut_at lists model place) drivers) model model → ⊥
