-- What contracts see of a shelf of named files, and what each of its calls does to it.
use Rattle.std.specs.Prelude.{◌≡◌, ℕ, ◌+◌, ◌<◌, ◌≤◌, ◌⊎◌, List, [], ◌++◌, length, take, drop, Option, Some, None, if◌then◌else◌}
use Rattle.std.specs.Option.{option_map, ForSome}
use Rattle.std.specs.Str.{bytes_eq}
use Rattle.psl_base.specs.Faults.{Rose}

-- the content of each name; none where the name is not there
abbrev pub Contents : Type 0
Contents = List ℕ → Option (List ℕ)

-- what a shelf stands for
pub record ShelfState : Type 0 where
  -- every content, or none where the shelf tells nothing
  pub told : Option Contents
  -- the name that is read
  pub selected : Option (List ℕ)
  -- how many bytes of it were given
  pub cursor : ℕ
  -- the name that is written
  pub created : Option (List ℕ)
  -- faults of select and read
  pub read_faults : ℕ
  -- faults of create and append
  pub write_faults : ℕ

-- the contents with this content under a name, and every other name's as it was
abbrev pub with_content : List ℕ → List ℕ → Contents → Contents
with_content name content contents other = if bytes_eq name other then Some content else contents other

-- the contents with more bytes at the end of a name's content, and every other name's as it was
abbrev pub with_more : List ℕ → List ℕ → Contents → Contents
with_more name more contents other =
    if bytes_eq name other then option_map (λ content. content ++ more) (contents other) else contents other

-- the shelf tells that the name has this content, or with `None` that it is not there
abbrev pub Tells : ShelfState → List ℕ → Option (List ℕ) → Type 0
Tells shelf name content = (contents : Contents) × (shelf.told ≡ Some contents) × (contents name ≡ content)

-- where it is told, the name is there
abbrev pub IsThere : ShelfState → List ℕ → Type 0
IsThere shelf name =
    (contents : Contents) → shelf.told ≡ Some contents → (content : List ℕ) × (contents name ≡ Some content)

-- where it is told, the name is there and these bytes are its whole content
abbrev pub IsContent : ShelfState → List ℕ → List ℕ → Type 0
IsContent shelf name content =
    (contents : Contents) → shelf.told ≡ Some contents → contents name ≡ Some content

-- where it is told, the name is there and its content is longer than the limit
abbrev pub IsLonger : ℕ → ShelfState → List ℕ → Type 0
IsLonger limit shelf name =
    (contents : Contents) → shelf.told ≡ Some contents →
    (content : List ℕ) × (contents name ≡ Some content) × (limit < length content)

-- a fact of the selected name's content, where that is told
abbrev pub OfSelected : ShelfState → (List ℕ → Type 0) → Type 0
OfSelected shelf fact =
    (contents : Contents) (name content : List ℕ) → shelf.told ≡ Some contents → shelf.selected ≡ Some name →
    contents name ≡ Some content → fact content

-- select and read change no content and nothing that is written, and their count never falls
pub record OnlyReads (old new : ShelfState) : Type 0 where
  pub told : new.told ≡ old.told
  pub created : new.created ≡ old.created
  pub write_faults : new.write_faults ≡ old.write_faults
  pub read_faults : old.read_faults ≤ new.read_faults

-- a name was selected, and its cursor is at 0
pub record Selects (name : List ℕ) (old new : ShelfState) : Type 0 where
  pub there : IsThere old name
  pub selected : new.selected ≡ Some name
  pub cursor : new.cursor ≡ 0
  pub read_faults : new.read_faults ≡ old.read_faults

-- a name was not selected: a fault, or it is told not to be there. No name is selected now
pub record SelectFails (name : List ℕ) (old new : ShelfState) : Type 0 where
  pub cause : Rose old.read_faults new.read_faults ⊎ Tells old name None
  pub selected : new.selected ≡ None
  pub cursor : new.cursor ≡ old.cursor

-- so many bytes were given: where it is told, the next ones, and none only at the content's end
pub record Reads (count : ℕ) (buffer : List ℕ) (old new : ShelfState) : Type 0 where
  pub fits : count ≤ length buffer
  pub bytes : OfSelected old (λ content. take count (drop old.cursor content) ≡ take count buffer)
  pub within : OfSelected old (λ content. new.cursor ≤ length content)
  pub end : count ≡ 0 → OfSelected old (λ content. length content ≤ old.cursor)
  pub cursor : new.cursor ≡ old.cursor + count
  pub selected : new.selected ≡ old.selected
  pub read_faults : new.read_faults ≡ old.read_faults

-- a read failed, and gave nothing
pub record ReadFails (old new : ShelfState) : Type 0 where
  pub cause : Rose old.read_faults new.read_faults
  pub cursor : new.cursor ≡ old.cursor
  pub selected : new.selected ≡ old.selected

-- create and append change nothing of what is read but the contents, and their count never falls
pub record OnlyWrites (old new : ShelfState) : Type 0 where
  pub cursor : new.cursor ≡ old.cursor
  pub read_faults : new.read_faults ≡ old.read_faults
  pub write_faults : old.write_faults ≤ new.write_faults

-- a name was created: its content is empty, and no name is selected
pub record Creates (name : List ℕ) (old new : ShelfState) : Type 0 where
  pub told : new.told ≡ option_map (with_content name []) old.told
  pub created : new.created ≡ Some name
  pub selected : new.selected ≡ None
  pub write_faults : new.write_faults ≡ old.write_faults

-- a name was not created. No name is created now, and every content is as before
pub record CreateFails (old new : ShelfState) : Type 0 where
  pub cause : Rose old.write_faults new.write_faults
  pub told : new.told ≡ old.told
  pub created : new.created ≡ None
  pub selected : new.selected ≡ old.selected

-- the first bytes of a piece were added to the created name's content, at least one of a piece that has any
pub record Appends (count : ℕ) (piece : List ℕ) (old new : ShelfState) : Type 0 where
  pub fits : count ≤ length piece
  pub some : 0 < length piece → 0 < count
  pub told : ForSome old.created (λ name. new.told ≡ option_map (with_more name (take count piece)) old.told)
  pub created : new.created ≡ old.created
  pub selected : new.selected ≡ old.selected
  pub write_faults : new.write_faults ≡ old.write_faults

-- nothing was added
pub record AppendFails (old new : ShelfState) : Type 0 where
  pub cause : Rose old.write_faults new.write_faults
  pub told : new.told ≡ old.told
  pub created : new.created ≡ old.created
  pub selected : new.selected ≡ old.selected

-- what was read of a name is past the limit
pub record HasTaken (limit : ℕ) (name : List ℕ) (shelf : ShelfState) : Type 0 where
  pub selected : shelf.selected ≡ Some name
  pub cursor : limit < shelf.cursor

-- why a name is not read: a fault, or it is told not to be there
abbrev pub ReadingFails : List ℕ → ShelfState → ShelfState → Type 0
ReadingFails name old new = Rose old.read_faults new.read_faults ⊎ Tells old name None

-- no other name than this one is selected
abbrev pub SelectsNoOther : List ℕ → ShelfState → Type 0
SelectsNoOther name shelf = (shelf.selected ≡ None) ⊎ (shelf.selected ≡ Some name)

-- these bytes were read of the selected name, from its first byte on
pub record Takes (bytes : List ℕ) (old new : ShelfState) : Type 0 where
  pub front : OfSelected old (λ content. take (length bytes) content ≡ bytes)
  pub cursor : new.cursor ≡ length bytes
  pub selected : new.selected ≡ old.selected
  pub only_reads : OnlyReads old new
