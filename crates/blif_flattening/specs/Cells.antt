-- The table of signals that a walk keeps.
use Rattle.std.specs.Prelude.{◌≡◌, ℕ, ◌<◌, List, [], ◌∷◌, ◌++◌, length, map, Option, None, Some, slice_index, slice_index_or}
use Rattle.blif_flattening.specs.declared.model.Signal.{Signal}
use Rattle.blif_flattening.specs.declared.cells.Cell.{Cell}
use Rattle.blif_flattening.specs.Members.{Among, Apart}

-- what the table is to those who use it: the signals of its cells, and those that were mentioned, by number
pub record SignalTable : Type 0 where
  pub owners : List Signal
  pub seen : List Signal

abbrev pub no_signal : Signal
no_signal = record { path = []; name = 0 }

-- the signals of cells
abbrev pub signals_of : List Cell → List Signal
signals_of cells = map (λ cell. cell.signal) cells

-- the signal of the cell at a place
abbrev pub signal_in : List Signal → ℕ → Signal
signal_in owners place = slice_index_or owners place no_signal

-- the number of the cell at a place
abbrev pub number_in : List Cell → ℕ → Option ℕ
number_in cells place = slice_index_or (map (λ cell. cell.number) cells) place None

-- the signals of the cells in the order of their numbers
abbrev pub seen_of : List Cell → List ℕ → List Signal
seen_of cells order = map (signal_in (signals_of cells)) order

abbrev pub table_of : List Cell → List ℕ → SignalTable
table_of cells order = record { owners = signals_of cells; seen = seen_of cells order }

-- what the table keeps: no signal has two cells, and numbers and the order are inverse to each other
pub record IsTable (cells : List Cell) (order : List ℕ) : Type 0 where
  pub apart : Apart (signals_of cells)
  pub within : (i : ℕ) → i < length order → slice_index order i < length cells
  pub once : Apart (seen_of cells order)
  pub unseen : (place : ℕ) → place < length cells → number_in cells place ≡ None
      → Among (signal_in (signals_of cells) place) (seen_of cells order) → ⊥
  pub numbered : (place number : ℕ) → place < length cells → number_in cells place ≡ Some number
      → (number < length order) × (slice_index order number ≡ place)

-- one more signal has a cell
abbrev pub with_owner : SignalTable → Signal → SignalTable
with_owner table signal = record { owners = table.owners ++ signal ∷ []; seen = table.seen }

-- the signals that names mention, where cells says in which cell each name is
abbrev pub named : List Signal → List ℕ → List ℕ → List Signal
named owners cells names = map (λ name. signal_in owners (slice_index cells name)) names
