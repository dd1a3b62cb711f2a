-- What writing files does to a shelf.
use Rattle.std.specs.Prelude.{◌≡◌, ◌⊎◌, ℕ, ◌<◌, List, [], ◌∷◌, length, take, slice_get, Some, string_bytes}
use Rattle.std.specs.Option.{option_map}
use Rattle.psl_base.specs.Faults.{Rose}
use Rattle.psl_base.specs.Shelf.{Contents, ShelfState, with_content}
use Rattle.psl_base.specs.declared.saving.Save.{Save}

-- a file as it is to be: its name and its whole content
pub record NewFile : Type 0 where
  pub name : List ℕ
  pub content : List ℕ

abbrev pub file_of : Save → NewFile
file_of save = record { name = string_bytes save.name; content = save.content }

-- the contents once a file, and once files in order, are written whole
abbrev pub with_file : NewFile → Contents → Contents
with_file file contents = with_content file.name file.content contents

abbrev pub with_files : List NewFile → Contents → Contents
with_files [] contents = contents
with_files (file ∷ files) contents = with_files files (with_file file contents)

-- the file has its content whole
pub record SavesOne (file : NewFile) (old new : ShelfState) : Type 0 where
  pub told : new.told ≡ option_map (with_file file) old.told
  pub write_faults : new.write_faults ≡ old.write_faults

-- the file is as it was, or has only the first bytes of its content
abbrev pub HoldsPart : NewFile → ShelfState → ShelfState → Type 0
HoldsPart file old new =
    (new.told ≡ old.told)
    ⊎ ((count : ℕ) × (count < length file.content)
    × (new.told ≡ option_map (with_content file.name (take count file.content)) old.told))

pub record SavesPartOfOne (file : NewFile) (old new : ShelfState) : Type 0 where
  pub part : HoldsPart file old new
  pub cause : Rose old.write_faults new.write_faults

-- all files have their contents whole
pub record SavesAll (files : List NewFile) (old new : ShelfState) : Type 0 where
  pub told : new.told ≡ option_map (with_files files) old.told
  pub write_faults : new.write_faults ≡ old.write_faults

-- the first files have their contents whole, the next is as it was or has only the first bytes of its own, and then a
-- fault came
pub record SavesPart (files : List NewFile) (old new : ShelfState) : Type 0 where
  pub whole : ℕ
  pub next : NewFile
  pub here : slice_get files whole ≡ Some next
  pub between : ShelfState
  pub before : SavesAll (take whole files) old between
  pub part : HoldsPart next between new
  pub cause : Rose old.write_faults new.write_faults
