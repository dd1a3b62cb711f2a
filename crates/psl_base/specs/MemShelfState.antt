-- What contracts see of a shelf in memory.
use Rattle.std.specs.Prelude.{◌≡◌, ℕ, List, Option, Some, None, Bool, if◌then◌else◌}
use Rattle.std.specs.List.{Contains, slice_get}
use Rattle.std.specs.Option.{option_map, option_and_then}
use Rattle.psl_base.specs.declared.packed.File.{File}
use Rattle.psl_base.specs.Shelf.{ShelfState}
use Rattle.psl_base.specs.Memory.{counted}
use Rattle.psl_base.specs.Files.{FileStore, content_of, last_name}

-- a shelf in memory: its files and their room, the name that is read and the place in it, the name that is
-- written, its calls and faults so far, and the numbers of the calls that fail
pub record MemoryShelf : Type 0 where
  pub store : FileStore
  pub selected : Option (List ℕ)
  pub cursor : ℕ
  pub created : Option (List ℕ)
  pub calls : ℕ
  pub read_faults : ℕ
  pub write_faults : ℕ
  pub fail : List ℕ

-- it tells everything
abbrev pub shelf_state : MemoryShelf → ShelfState
shelf_state shelf = record {
  told = Some (content_of shelf.store.files);
  selected = shelf.selected;
  cursor = shelf.cursor;
  created = shelf.created;
  read_faults = shelf.read_faults;
  write_faults = shelf.write_faults;
}

-- the number of the next call is among those that fail
abbrev pub IsListed : MemoryShelf → Type 0
IsListed shelf = Contains shelf.fail (counted shelf.calls)

-- a count is one further where something is so, and else as it was
pub record CountsWhere (fact : Type 0) (before after : ℕ) : Type 0 where
  pub rises : fact → after ≡ counted before
  pub stays : (fact → ⊥) → after ≡ before

-- a call is counted, and the room and the calls that fail are as before
pub record CountsCall (old new : MemoryShelf) : Type 0 where
  pub calls : new.calls ≡ counted old.calls
  pub file_room : new.store.file_room ≡ old.store.file_room
  pub byte_room : new.store.byte_room ≡ old.store.byte_room
  pub fail : new.fail ≡ old.fail

-- the name of the file at a place, where there is a place
abbrev pub name_at : List File → Option ℕ → Option (List ℕ)
name_at files place = option_and_then (λ at. option_map (λ file. file.name) (slice_get files at)) place

-- the name of the last file, where it is written
abbrev pub written_name : List File → Bool → Option (List ℕ)
written_name files is_written = if is_written then last_name files else None
