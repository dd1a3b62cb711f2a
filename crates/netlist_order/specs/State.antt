-- The state of a search for strong components, and its steps.
use Rattle.std.specs.Prelude.{◌≡◌, ℕ, ◌+◌, ◌-◌, ◌*◌, ◌<◌, ◌≤◌, min, Bool, List, [], ◌∷◌, ◌++◌, length, take, drop, replicate, Option, None, Some, slice_index, slice_index_or, slice_set, if◌then◌else◌}
use Rattle.netlist_order.specs.declared.search.Visit.{Visit}
use Rattle.netlist_order.specs.declared.search.Visit.TheVariants.{New, Open, Done}
use Rattle.netlist_order.specs.Graph.{Graph}

-- how far each table is; how many inputs of each were followed; the open tables in the order in which they were
-- met; the places in it where a component begins, as far as is known; the places whose tables are still to be
-- left; the closed tables in order; the lowest one on a cycle among them
pub record State : Type 0 where
  pub marks : List Visit
  pub next : List ℕ
  pub met : List ℕ
  pub heads : List ℕ
  pub path : List ℕ
  pub order : List ℕ
  pub first : Option ℕ

-- how far a table is
abbrev pub mark_of : State → ℕ → Visit
mark_of state table = slice_index_or state.marks table New

-- how many inputs of a table were followed
abbrev pub next_of : State → ℕ → ℕ
next_of state table = slice_index state.next table

-- the open table at a place
abbrev pub table_at : State → ℕ → ℕ
table_at state place = slice_index state.met place

-- so many tables, none of them met
abbrev pub unvisited : ℕ → State
unvisited count = record {
  marks = replicate count New;
  next = replicate count 0;
  met = [];
  heads = [];
  path = [];
  order = [];
  first = None;
}

-- a table is met, and begins a component of its own
abbrev pub entered : State → ℕ → State
entered state table = record {
  marks = slice_set state.marks table (Open (length state.met));
  next = state.next;
  met = state.met ++ table ∷ [];
  heads = state.heads ++ length state.met ∷ [];
  path = state.path ++ length state.met ∷ [];
  order = state.order;
  first = state.first;
}

-- other heads
abbrev pub with_heads : State → List ℕ → State
with_heads state heads = record {
  marks = state.marks;
  next = state.next;
  met = state.met;
  heads = heads;
  path = state.path;
  order = state.order;
  first = state.first;
}

-- one more input of a table is followed
abbrev pub advanced : State → ℕ → State
advanced state table = record {
  marks = state.marks;
  next = slice_set state.next table (next_of state table + 1);
  met = state.met;
  heads = state.heads;
  path = state.path;
  order = state.order;
  first = state.first;
}

-- a list without its last member
abbrev pub without_last : List ℕ → List ℕ
without_last numbers = take (length numbers - 1) numbers

-- the last place of the path is left
abbrev pub left : State → State
left state = record {
  marks = state.marks;
  next = state.next;
  met = state.met;
  heads = state.heads;
  path = without_last state.path;
  order = state.order;
  first = state.first;
}

-- tables are marked as closed
abbrev pub mark_done : List Visit → List ℕ → List Visit
mark_done marks [] = marks
mark_done marks (table ∷ tables) = mark_done (slice_set marks table Done) tables

-- the lower one of a number and one that may be missing
abbrev pub lower : Option ℕ → ℕ → ℕ
lower None number = number
lower (Some other) number = min other number

-- the lowest number of a list and one that may be missing
abbrev pub lowest : Option ℕ → List ℕ → Option ℕ
lowest first [] = first
lowest first (number ∷ numbers) = lowest (Some (lower first number)) numbers

-- the component that begins at the last head, at a place, is closed
abbrev pub closed : State → ℕ → Bool → State
closed state place cyclic = record {
  marks = mark_done state.marks (drop place state.met);
  next = state.next;
  met = take place state.met;
  heads = without_last state.heads;
  path = state.path;
  order = state.order ++ drop place state.met;
  first = if cyclic then lowest state.first (drop place state.met) else state.first;
}

-- the last numbers of a list are dropped, up to one that is not above a limit
pub record DropsAbove (limit : ℕ) (old new : List ℕ) : Type 0 where
  pub fits : length new ≤ length old
  pub kept : new ≡ take (length new) old
  pub above : (i : ℕ) → length new ≤ i → i < length old → limit < slice_index old i
  pub last : (i : ℕ) → i + 1 ≡ length new → slice_index new i ≤ limit

-- a table that is read is reached: it is met, or the components back to its place are joined, or it is closed already
pub record Reaches (table : ℕ) (old new : State) : Type 0 where
  pub as_new : mark_of old table ≡ New → new ≡ entered old table
  pub as_open : (place : ℕ) → mark_of old table ≡ Open place
      → (new ≡ with_heads old new.heads) × DropsAbove place old.heads new.heads
  pub as_done : mark_of old table ≡ Done → new ≡ old

-- how many inputs were not followed yet
abbrev pub unfollowed : Graph → List ℕ → ℕ
unfollowed [] next = 0
unfollowed (inputs ∷ graph) [] = length inputs + unfollowed graph []
unfollowed (inputs ∷ graph) (count ∷ next) = (length inputs - count) + unfollowed graph next

-- how much is left to do: an input is worth two steps, and a place of the path one
abbrev pub work : Graph → State → ℕ
work graph state = unfollowed graph state.next * 2 + length state.path
