-- Why an assumed literal is false: flags at places of the trail, and literals that make all flagged ones true.
use Rattle.std.specs.Prelude.{◌≡◌, ◌⊎◌, ℕ, ◌<◌, ℤ, Bool, true, false, List, map, slice_index, slice_index_or}
use Rattle.std.specs.List.{All, Contains}
use Rattle.clauses.specs.Live.{Numbered}
use Rattle.clauses.specs.Models.{Assignment}
use Rattle.cdcl_trail.specs.Literals.{opposite, signed}
use Rattle.cdcl_trail.specs.Path.{Path}
use Rattle.cdcl_propagation.specs.State.{State}
use Rattle.cdcl_incremental.specs.Standing.{Holds, AreMet}
use Rattle.cdcl_incremental.specs.Questions.{AreTrue}

-- a place has a flag
abbrev pub IsFlag : List Bool → ℕ → Type 0
IsFlag flags place = slice_index_or flags place false ≡ true

-- the literal at each flagged place is true
abbrev pub AreFlagsTrue : Assignment → Path → List Bool → Type 0
AreFlagsTrue values path flags = (place : ℕ) → IsFlag flags place → Holds values (slice_index path.literals place)

-- where the literals at flagged places are true, so were those at the places that were flagged before
abbrev pub Implies : State → List Bool → List Bool → Type 0
Implies state old new = (values : Assignment) → AreMet values state.clauses → AreFlagsTrue values state.path new → AreFlagsTrue values state.path old

-- each literal of a clause stands at a place, or is false by a lower one that is flagged
abbrev pub IsExplained : Path → List Bool → ℕ → List ℕ → Type 0
IsExplained path flags place clause =
    All (λ other. (other ≡ slice_index path.literals place) ⊎ ((at : ℕ) × (at < place) × IsFlag flags at × (slice_index path.literals at ≡ opposite other))) clause

-- Flags of assumed literals became literals of a core.
pub record IsTaken (path : Path) (assumed : List ℕ) (flags : List Bool) (core : List ℤ) (flags' : List Bool) (core' : List ℤ) : Type 0 where
  pub among : All (Contains (map signed assumed)) core → All (Contains (map signed assumed)) core'
  pub flags_true : (values : Assignment) → AreTrue values core' → AreFlagsTrue values path flags' → AreFlagsTrue values path flags
  pub core_true : (values : Assignment) → AreTrue values core' → AreTrue values core

-- Literals were added to a core, which make those at the flagged places true.
pub record IsTraced (state : State) (assumed : List ℕ) (flags : List Bool) (core core' : List ℤ) : Type 0 where
  pub among : All (Contains (map signed assumed)) core → All (Contains (map signed assumed)) core'
  pub follows : (values : Assignment) → AreMet values state.clauses → AreTrue values core' → AreFlagsTrue values state.path flags
  pub core_true : (values : Assignment) → AreTrue values core' → AreTrue values core

-- assumed literals that are not all true where the clauses are met
pub record IsCoreOf (clauses : Numbered ℕ) (assumed : List ℕ) (core : List ℤ) : Type 0 where
  pub among : All (Contains (map signed assumed)) core
  pub refutes : (values : Assignment) → AreMet values clauses → AreTrue values core → ⊥
