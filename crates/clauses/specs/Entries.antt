-- The entries of a log that lie one behind another: all literals in one list, and all hints.
use Rattle.std.specs.Prelude.{◌≡◌, ℕ, ℤ, List, [], ◌∷◌, length, take, drop, sum_by, Bool, true, false, Option, None, Some, IsTrue}
use Rattle.std.specs.List.{list_all}
use Rattle.clauses.specs.declared.log.Entry.{Entry}
use Rattle.clauses.specs.declared.log.Entry.TheVariants as lent
use Rattle.clauses.specs.declared.log.Shape.{Shape}
use Rattle.clauses.specs.declared.log.Shape.TheVariants as shape
use Rattle.clauses.specs.Logs.{LogEntry, is_entry}
use Rattle.clauses.specs.Logs.LogEntry.{Lemma, Forget}

-- the entry that an entry in the code stands for
abbrev pub entry_of : Entry → LogEntry
entry_of (lent.Lemma literals hints) = Lemma literals.now hints.now
entry_of (lent.Forget number) = Forget number

-- how many literals and hints an entry of a shape has
abbrev pub literals_of : Shape → ℕ
literals_of (shape.Lemma literals hints) = literals
literals_of (shape.Forget number) = 0

abbrev pub hints_of : Shape → ℕ
hints_of (shape.Lemma literals hints) = hints
hints_of (shape.Forget number) = 0

abbrev pub is_lemma_shape : Shape → Bool
is_lemma_shape (shape.Lemma literals hints) = true
is_lemma_shape (shape.Forget number) = false

-- the entry of a shape that begins with the literals and the hints
abbrev pub entry_at : List ℤ → List ℕ → Shape → LogEntry
entry_at literals hints (shape.Lemma some few) = Lemma (take some literals) (take few hints)
entry_at literals hints (shape.Forget number) = Forget number

-- the entries of shapes that follow one another
abbrev pub entries_of : List ℤ → List ℕ → List Shape → List LogEntry
entries_of literals hints [] = []
entries_of literals hints (first ∷ shapes) =
    entry_at literals hints first ∷ entries_of (drop (literals_of first) literals) (drop (hints_of first) hints) shapes

-- the shapes cover the literals and the hints, and each entry's numbers are some
pub record IsPacked (literals : List ℤ) (hints : List ℕ) (shapes : List Shape) : Type 0 where
  pub literals_covered : sum_by literals_of shapes ≡ length literals
  pub hints_covered : sum_by hints_of shapes ≡ length hints
  pub entries : IsTrue (list_all is_entry (entries_of literals hints shapes))

-- the first entry was taken, or there is none
abbrev pub IsNext : Option Entry → List LogEntry → List LogEntry → Type 0
IsNext None old new = (old ≡ []) × (new ≡ [])
IsNext (Some entry) old new = old ≡ entry_of entry ∷ new
