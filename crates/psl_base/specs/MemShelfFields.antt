-- What a shelf in memory keeps of its fields, and what they stand for.
use Rattle.std.specs.Prelude.{◌<◌, length, IsTrue}
use Rattle.std.specs.Option.{ForSome}
use Rattle.psl_base.specs.declared.mem_shelf.MemShelf.TheInside.{Inside}
use Rattle.psl_base.specs.Files.{CountsAt}
use Rattle.psl_base.specs.MemShelfState.{MemoryShelf, name_at, written_name}

-- what a shelf in memory keeps: the file that is read counts under its name, and the cursor is within it,
-- and there is a file where one is written
pub record IsShelf (shelf : Inside) : Type 0 where
  pub reads : ForSome shelf.selected (λ place. CountsAt shelf.files.files place shelf.cursor)
  pub writes : IsTrue shelf.is_written → 0 < length shelf.files.files

abbrev pub memory_of : Inside → MemoryShelf
memory_of shelf = record {
  store = shelf.files;
  selected = name_at shelf.files.files shelf.selected;
  cursor = shelf.cursor;
  created = written_name shelf.files.files shelf.is_written;
  calls = shelf.calls;
  read_faults = shelf.read_faults;
  write_faults = shelf.write_faults;
  fail = shelf.fail;
}
