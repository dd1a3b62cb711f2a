-- Dependency graphs: which tables read which, what an order of them is, and the first one on a cycle.
use Rattle.std.specs.Prelude.{◌≡◌, ◌≢◌, ℕ, ◌<◌, List, [], length, Option, None, Some, slice_index, slice_index_or}

-- of each table, for each of its inputs, the table that drives it: none where no table does
abbrev pub Graph : Type 0
Graph = List (List (Option ℕ))

-- what drives the inputs of a table
abbrev pub inputs_of : Graph → ℕ → List (Option ℕ)
inputs_of graph table = slice_index_or graph table []

-- what drives one input of a table
abbrev pub driver_of : Graph → ℕ → ℕ → Option ℕ
driver_of graph table place = slice_index_or (inputs_of graph table) place None

-- a table has an input that the other one drives
pub record Reads (graph : Graph) (table driver : ℕ) : Type 0 where
  pub place : ℕ
  pub drives : driver_of graph table place ≡ Some driver

-- a chain of tables, each of which reads the next, leads from one table to another
pub data Depends (graph : Graph) : ℕ → ℕ → Type 0 where
  directly : {table driver : ℕ} → Reads graph table driver → Depends graph table driver
  onwards : {table driver other : ℕ} → Reads graph table driver → Depends graph driver other → Depends graph table other

-- what drives an input is a table of the graph
abbrev pub IsGraph : Graph → Type 0
IsGraph graph = (table driver : ℕ) → Reads graph table driver → driver < length graph

-- a number stands somewhere in a list
pub record Occurs (number : ℕ) (numbers : List ℕ) : Type 0 where
  pub place : ℕ
  pub within : place < length numbers
  pub is : slice_index numbers place ≡ number

-- a number stands in a list before a place
pub record OccursBefore (limit number : ℕ) (numbers : List ℕ) : Type 0 where
  pub place : ℕ
  pub before : place < limit
  pub is : slice_index numbers place ≡ number

-- a topological order: it names each table once, after all those that the table reads
pub record IsOrder (graph : Graph) (order : List ℕ) : Type 0 where
  pub each : (table : ℕ) → table < length graph → Occurs table order
  pub within : (i : ℕ) → i < length order → slice_index order i < length graph
  pub once : (i j : ℕ) → i < j → j < length order → slice_index order i ≢ slice_index order j
  pub after : (i driver : ℕ) → i < length order → Reads graph (slice_index order i) driver → OccursBefore i driver order

-- the table with the lowest number of those that depend on themselves
pub record IsFirstOnCycle (graph : Graph) (table : ℕ) : Type 0 where
  pub within : table < length graph
  pub itself : Depends graph table table
  pub first : (earlier : ℕ) → earlier < table → Depends graph earlier earlier → ⊥
