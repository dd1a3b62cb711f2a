-- What the calls of a shelf in memory do to what contracts see of it.
use Rattle.std.proofs.Common.{◌≡◌, ℕ, ◌+◌, ◌-◌, ◌<◌, ◌≤◌, min, Bool, true, false, List, ◌++◌, length, take, drop, Some, None, slice_get, refl, sym, ap, subst, ◌∙◌, arith}
use Rattle.std.proofs.Math.Seq.{take-length}
use Rattle.std.proofs.lemmas.List.{length_push}
use Rattle.psl_base.specs.declared.packed.File.{File}
use Rattle.psl_base.specs.declared.mem_shelf.MemShelf.TheInside.{Inside}
use Rattle.psl_base.specs.Shelf.{ShelfState, OfSelected, Reads, Creates, Appends}
use Rattle.psl_base.specs.Files.{FileStore, CountsAt, CreatesFile, GrowsLast, last_name}
use Rattle.psl_base.specs.MemShelfState.{MemoryShelf, shelf_state, written_name}
use Rattle.psl_base.specs.MemShelfFields.{IsShelf, memory_of}
use Rattle.psl_base.proofs.Counting.{counts_found, counts_size, counts_grows, of_selected, some_same, contents_created, last_name_created, contents_grown, last_name_grown, name_at_grown}

-- the cursor is within what is read
pub cursor_within : (shelf : Inside) (place : ℕ) (file : File) → IsShelf shelf → shelf.selected ≡ Some place → slice_get shelf.files.files place ≡ Some file → shelf.cursor ≤ length file.content
cursor_within shelf place file keeps selected at = (counts_found shelf.files.files place shelf.cursor file (keeps.reads place selected) at).1

-- so many bytes were copied from the cursor on
pub reads_piece : (shelf : Inside) (old : MemoryShelf) (calls place count : ℕ) (file : File) (into buffer : List ℕ) →
    memory_of shelf ≡ record old { calls = calls } → IsShelf shelf → shelf.selected ≡ Some place → slice_get shelf.files.files place ≡ Some file →
    count ≡ min (length into) (length file.content - shelf.cursor) → take count (drop shelf.cursor file.content) ≡ take count buffer → length buffer ≡ length into → 0 < length into →
    Reads count buffer (shelf_state old) (shelf_state (memory_of (record shelf { cursor = shelf.cursor + count })))
reads_piece shelf old calls place count file into buffer is keeps selected at counted copied sized room =
    let before = shelf_state (memory_of shelf) in
    let files = shelf.files.files in
    let counts : CountsAt files place shelf.cursor = keeps.reads place selected in
    let within = cursor_within shelf place file keeps selected at in
    let fact = λ (P : List ℕ → Type 0) (holds : P file.content). of_selected files place shelf.cursor file before P counts at refl (rw selected) holds in
    let further : shelf.cursor + count ≤ length file.content = omega arith in
    let made : Reads count buffer before (shelf_state (memory_of (record shelf { cursor = shelf.cursor + count }))) = record {
      fits = omega arith;
      bytes = fact (λ content. take count (drop shelf.cursor content) ≡ take count buffer) copied;
      within = fact (λ content. shelf.cursor + count ≤ length content) further;
      end = λ none. fact (λ content. length content ≤ shelf.cursor) (omega arith);
      cursor = refl;
      selected = refl;
      read_faults = refl;
    } in
    subst (λ (s : ShelfState). Reads count buffer s (shelf_state (memory_of (record shelf { cursor = shelf.cursor + count })))) (ap shelf_state is) made

-- as many bytes were copied as there were and as the buffer takes
pub reads_whole : (shelf : Inside) (old : MemoryShelf) (calls place count : ℕ) (file : File) (into : List ℕ) →
    memory_of shelf ≡ record old { calls = calls } → IsShelf shelf → shelf.selected ≡ Some place → slice_get shelf.files.files place ≡ Some file →
    count ≡ min (length into) (length file.content - shelf.cursor) → OfSelected (shelf_state old) (λ content. count ≡ min (length into) (length content - old.cursor))
reads_whole shelf old calls place count file into is keeps selected at counted =
    let before = shelf_state (memory_of shelf) in
    subst (λ (s : ShelfState). OfSelected s (λ content. count ≡ min (length into) (length content - s.cursor))) (ap shelf_state is)
    (of_selected shelf.files.files place shelf.cursor file before (λ content. count ≡ min (length into) (length content - shelf.cursor)) (keeps.reads place selected) at refl (rw selected) counted)

-- the fields after a piece was read
pub keeps_read : (shelf : Inside) (place count : ℕ) (file : File) (into : List ℕ) → IsShelf shelf → shelf.selected ≡ Some place → slice_get shelf.files.files place ≡ Some file →
    count ≡ min (length into) (length file.content - shelf.cursor) → IsShelf (record shelf { cursor = shelf.cursor + count })
keeps_read shelf place count file into keeps selected at counted =
    let counts = keeps.reads place selected in
    let within = cursor_within shelf place file keeps selected at in
    let further : shelf.cursor + count ≤ length file.content = omega arith in
    record {
      reads = λ other is. subst (λ (p : ℕ). CountsAt shelf.files.files p (shelf.cursor + count)) (some_same place other (sym selected ∙ is))
          (counts_size shelf.files.files place shelf.cursor (shelf.cursor + count) file counts at further);
      writes = keeps.writes;
    }

-- a name was created
pub creates_name : (shelf : Inside) (old : MemoryShelf) (calls : ℕ) (name : List ℕ) (store : FileStore) →
    memory_of shelf ≡ record old { calls = calls } → CreatesFile name shelf.files.files store.files →
    Creates name (shelf_state old) (shelf_state (memory_of (record shelf { files = store; selected = None; is_written = true })))
creates_name shelf old calls name store is creates =
    let after = shelf_state (memory_of (record shelf { files = store; selected = None; is_written = true })) in
    let made : Creates name (shelf_state (memory_of shelf)) after = record {
      told = ap Some (contents_created name shelf.files.files store.files creates);
      created = last_name_created name shelf.files.files store.files creates;
      selected = refl;
      write_faults = refl;
    } in
    subst (λ (s : ShelfState). Creates name s after) (ap shelf_state is) made

-- the name that is written is that of the last file
written_last : (files : List File) (is_written : Bool) (name : List ℕ) → written_name files is_written ≡ Some name → last_name files ≡ Some name
written_last files true name is = is
written_last files false name is = cc

-- a piece was added whole to the name that is written
pub appends_piece : (shelf : Inside) (old : MemoryShelf) (calls : ℕ) (piece : List ℕ) (store : FileStore) →
    memory_of shelf ≡ record old { calls = calls } → GrowsLast piece shelf.files.files store.files →
    Appends (length piece) piece (shelf_state old) (shelf_state (memory_of (record shelf { files = store })))
appends_piece shelf old calls piece store is grows =
    let after = shelf_state (memory_of (record shelf { files = store })) in
    let made : Appends (length piece) piece (shelf_state (memory_of shelf)) after = record {
      fits = omega arith;
      some = λ some. some;
      told = λ name named. rw (take-length piece) (ap Some (contents_grown name piece shelf.files.files store.files (written_last shelf.files.files shelf.is_written name named) grows));
      created = rw (last_name_grown piece shelf.files.files store.files grows);
      selected = name_at_grown piece shelf.files.files store.files shelf.selected grows;
      write_faults = refl;
    } in
    subst (λ (s : ShelfState). Appends (length piece) piece s after) (ap shelf_state is) made

-- the fields after the last file grew
pub keeps_append : (shelf : Inside) (piece : List ℕ) (store : FileStore) → IsShelf shelf → GrowsLast piece shelf.files.files store.files → IsShelf (record shelf { files = store })
keeps_append shelf piece store keeps grows = record {
  reads = λ place selected. counts_grows piece shelf.files.files store.files place shelf.cursor grows (keeps.reads place selected);
  writes = λ _. rw grows.is (omega (arith, length_push grows.before (record { name = grows.name; content = grows.content ++ piece })));
}
