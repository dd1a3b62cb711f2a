-- Named files as a list. Where two have one name, the later one counts.
use Rattle.std.specs.Prelude.{◌≡◌, ℕ, zero, suc, ◌+◌, ◌<◌, ◌≤◌, ◌⊎◌, List, [], ◌∷◌, ◌++◌, length, sum_by, slice_get, Option, Some, None, unwrap_or, if◌then◌else◌}
use Rattle.std.specs.Option.{option_or}
use Rattle.std.specs.Str.{bytes_eq}
use Rattle.psl_base.specs.declared.packed.File.{File}

-- the content of each name
abbrev pub content_of : List File → List ℕ → Option (List ℕ)
content_of [] name = None
content_of (file ∷ files) name =
    option_or (content_of files name) (if bytes_eq file.name name then Some file.content else None)

-- how many bytes their names and contents have together
abbrev pub bytes_of : List File → ℕ
bytes_of files = sum_by (λ file. length file.name + length file.content) files

-- a file with nothing in it
abbrev pub empty_file : List ℕ → File
empty_file name = record { name = name; content = [] }

-- the last file's name
abbrev pub last_name : List File → Option (List ℕ)
last_name [] = None
last_name (file ∷ files) = Some (unwrap_or (last_name files) file.name)

-- the file at a place, counted from 0, is the one of its name that counts, and has at least so many bytes
abbrev pub CountsAt : List File → ℕ → ℕ → Type 0
CountsAt [] place size = ⊥
CountsAt (file ∷ files) zero size = (content_of files file.name ≡ None) × (size ≤ length file.content)
CountsAt (file ∷ files) (suc place) size = CountsAt files place size

-- the file of a name is at a place, counted from 0
pub record FoundAt (files : List File) (name : List ℕ) (place : ℕ) : Type 0 where
  pub content : List ℕ
  pub at : slice_get files place ≡ Some (record { name = name; content = content })
  pub is : content_of files name ≡ Some content
  pub counts : CountsAt files place 0

-- a file of this name is emptied, and comes last
pub record EmptiesOne (name : List ℕ) (old new : List File) : Type 0 where
  pub before : List File
  pub after : List File
  pub content : List ℕ
  pub was : old ≡ before ++ record { name = name; content = content } ∷ after
  pub is : new ≡ before ++ after ++ empty_file name ∷ []

-- the last file's content is longer by more bytes
pub record GrowsLast (more : List ℕ) (old new : List File) : Type 0 where
  pub before : List File
  pub name : List ℕ
  pub content : List ℕ
  pub was : old ≡ before ++ record { name = name; content = content } ∷ []
  pub is : new ≡ before ++ record { name = name; content = content ++ more } ∷ []

-- files in a bounded room: how many there may be, and how many bytes their names and contents may have together
pub record FileStore : Type 0 where
  pub files : List File
  pub file_room : ℕ
  pub byte_room : ℕ

-- a name that is not there is past the room: there are as many files as there may be, or its bytes go past the room
abbrev pub IsNamePastRoom : FileStore → List ℕ → Type 0
IsNamePastRoom store name =
    (content_of store.files name ≡ None)
    × (store.file_room ≤ length store.files ⊎ store.byte_room < bytes_of store.files + length name)

-- a name has a file with nothing in it, which is last
abbrev pub CreatesFile : List ℕ → List File → List File → Type 0
CreatesFile name old new = EmptiesOne name old new ⊎ ((content_of old name ≡ None) × (new ≡ old ++ empty_file name ∷ []))

-- a piece is past the room
abbrev pub IsPiecePastRoom : FileStore → List ℕ → Type 0
IsPiecePastRoom store piece = store.byte_room < bytes_of store.files + length piece
