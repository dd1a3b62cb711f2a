-- What a search for strong components keeps. Every fact is one about places in the list of open tables.
use Rattle.std.specs.Prelude.{◌≡◌, ◌≢◌, ℕ, ◌+◌, ◌<◌, ◌≤◌, ◌⊎◌, List, length, Option, None, Some, slice_index}
use Rattle.netlist_order.specs.declared.search.Visit.TheVariants.{New, Open, Done}
use Rattle.netlist_order.specs.Graph.{Graph, inputs_of, driver_of, Reads, Depends, Occurs, OccursBefore}
use Rattle.netlist_order.specs.State.{State, mark_of, next_of, table_at}

-- two places are in one component, as far as is known: no component begins behind the first and up to the second
abbrev pub Joined : List ℕ → ℕ → ℕ → Type 0
Joined heads place later = (head : ℕ) → Occurs head heads → head ≤ later → head ≤ place

-- a table is open at a place that is joined with another one
pub record OpenBelow (state : State) (later table : ℕ) : Type 0 where
  pub place : ℕ
  pub open_at : mark_of state table ≡ Open place
  pub joined : Joined state.heads place later

-- what a followed input of the table at a place reads: a closed table, or one that is joined with the place
abbrev pub IsKnown : State → ℕ → ℕ → Type 0
IsKnown state place driver = (mark_of state driver ≡ Done) ⊎ OpenBelow state place driver

-- the open tables
pub record IsOpen (graph : Graph) (state : State) : Type 0 where
  pub marks_size : length state.marks ≡ length graph
  pub next_size : length state.next ≡ length graph
  pub within : (place : ℕ) → place < length state.met → table_at state place < length graph
  pub marked : (place : ℕ) → place < length state.met → mark_of state (table_at state place) ≡ Open place
  pub placed : (table place : ℕ) → mark_of state table ≡ Open place
      → (place < length state.met) × (table_at state place ≡ table)
  pub fresh : (table : ℕ) → mark_of state table ≡ New → next_of state table ≡ 0
  pub known : (place input driver : ℕ) → place < length state.met → input < next_of state (table_at state place)
      → driver_of graph (table_at state place) input ≡ Some driver → IsKnown state place driver
  pub ahead : (place later : ℕ) → place < later → later < length state.met
      → Depends graph (table_at state place) (table_at state later)
  pub back : (place later : ℕ) → place < later → later < length state.met → Joined state.heads place later
      → Depends graph (table_at state later) (table_at state place)

-- all inputs of a table were followed
abbrev pub IsFollowed : Graph → State → ℕ → Type 0
IsFollowed graph state table = length (inputs_of graph table) ≤ next_of state table

-- numbers rise
abbrev pub IsRising : List ℕ → Type 0
IsRising numbers = (i j : ℕ) → i < j → j < length numbers → slice_index numbers i < slice_index numbers j

-- the places that are still to be left, and those where a component begins
pub record IsPath (graph : Graph) (state : State) : Type 0 where
  pub on_path : (head : ℕ) → Occurs head state.heads → Occurs head state.path
  pub heads_rise : IsRising state.heads
  pub path_rises : IsRising state.path
  pub within : (place : ℕ) → Occurs place state.path → place < length state.met
  pub rest : (place : ℕ) → place < length state.met
      → Occurs place state.path ⊎ IsFollowed graph state (table_at state place)
  pub bottom : 0 < length state.met → Occurs 0 state.heads

-- a table is below one that may be missing
abbrev pub IsBelow : ℕ → Option ℕ → Type 0
IsBelow table None = Unit {0}
IsBelow table (Some first) = table < first

-- the closed tables
pub record IsClosed (graph : Graph) (state : State) : Type 0 where
  pub reads : (table driver : ℕ) → mark_of state table ≡ Done → Reads graph table driver → mark_of state driver ≡ Done
  pub listed : (table : ℕ) → mark_of state table ≡ Done → Occurs table state.order
  pub done : (table : ℕ) → Occurs table state.order → mark_of state table ≡ Done
  pub once : (i j : ℕ) → i < j → j < length state.order → slice_index state.order i ≢ slice_index state.order j
  pub after : state.first ≡ None → (i driver : ℕ) → i < length state.order
      → Reads graph (slice_index state.order i) driver → OccursBefore i driver state.order
  pub clean : (table : ℕ) → mark_of state table ≡ Done → IsBelow table state.first → Depends graph table table → ⊥
  pub cyclic : (table : ℕ) → state.first ≡ Some table → (table < length graph) × Depends graph table table

-- what holds between two steps
pub record IsSound (graph : Graph) (state : State) : Type 0 where
  pub open_tables : IsOpen graph state
  pub places : IsPath graph state
  pub closed_tables : IsClosed graph state

-- a number is the last one of a list
pub record IsLast (numbers : List ℕ) (number : ℕ) : Type 0 where
  pub index : ℕ
  pub last : index + 1 ≡ length numbers
  pub is : slice_index numbers index ≡ number

-- no table that was met is as if it were not
abbrev pub KeepsMet : State → State → Type 0
KeepsMet old new = (table : ℕ) → mark_of new table ≡ New → mark_of old table ≡ New

-- the tables from a place on are on a cycle: there are several, or the one there reads itself
abbrev pub IsCyclic : Graph → State → ℕ → Type 0
IsCyclic graph state place = (place + 1 < length state.met) ⊎ Reads graph (table_at state place) (table_at state place)
