-- Entries that lie one behind another: how many lemmas and words they have, and what a push makes of them.
use Rattle.std.proofs.Common.{◌≡◌, ℕ, ◌+◌, ◌*◌, ◌≤◌, ℤ, List, [], ◌∷◌, ◌++◌, length, drop, refl, sym, ap, ◌∙◌, arith, length-append, length-drop, true, Bool, cond}
use Rattle.std.specs.Bool.{IsTrue}
use Rattle.std.specs.List.{sum_by, count_by, list_all}
use Rattle.std.proofs.lemmas.Bool.{and_from}
use Rattle.std.proofs.lemmas.List.Folds.{list_all-append}
use Rattle.std.proofs.lemmas.List.Sums.{sum_by-cons, sum_by-append}
use Rattle.std.proofs.lemmas.List.{take-append-le, drop-append-le, take_all, nil_from_length, length-take-le}
use Rattle.clauses.specs.declared.log.Shape.{Shape}
use Rattle.clauses.specs.declared.log.Shape.TheVariants as shape
use Rattle.clauses.specs.Logs.{LogEntry, is_entry, entry_words, log_words, is_lemma, lemmas}
use Rattle.clauses.specs.Logs.LogEntry.{Lemma, Forget}
use Rattle.clauses.specs.Entries.{literals_of, hints_of, is_lemma_shape, entry_at, entries_of, IsPacked}

-- entries that are some, and one more
all_entries_push : (log : List LogEntry) (new : LogEntry) → IsTrue (list_all is_entry log) → IsTrue (is_entry new) → IsTrue (list_all is_entry (log ++ new ∷ []))
all_entries_push log new all here =
    list_all-append is_entry log (new ∷ []) ∙ and_from (list_all is_entry log) (list_all is_entry (new ∷ [])) all (and_from (is_entry new) true here refl)

-- what one shape and others cover
literals-cons : (first : Shape) (shapes : List Shape) → sum_by literals_of (first ∷ shapes) ≡ literals_of first + sum_by literals_of shapes
literals-cons first shapes = sum_by-cons literals_of first shapes

hints-cons : (first : Shape) (shapes : List Shape) → sum_by hints_of (first ∷ shapes) ≡ hints_of first + sum_by hints_of shapes
hints-cons first shapes = sum_by-cons hints_of first shapes

-- an entry reads its own literals and hints alone
entry_at-append : (literals more : List ℤ) (hints others : List ℕ) (first : Shape) → literals_of first ≤ length literals → hints_of first ≤ length hints →
    entry_at (literals ++ more) (hints ++ others) first ≡ entry_at literals hints first
entry_at-append literals more hints others (shape.Lemma some few) front back =
    rw (take-append-le some literals more front, take-append-le few hints others back)
entry_at-append literals more hints others (shape.Forget number) front back = refl

-- entries behind one another
entries_of-append : (literals more : List ℤ) (hints others : List ℕ) (shapes behind : List Shape) →
    sum_by literals_of shapes ≡ length literals → sum_by hints_of shapes ≡ length hints →
    entries_of (literals ++ more) (hints ++ others) (shapes ++ behind) ≡ entries_of literals hints shapes ++ entries_of more others behind
entries_of-append literals more hints others [] behind front back =
    let none : literals ≡ [] = nil_from_length literals (sym front) in
    let nothing : hints ≡ [] = nil_from_length hints (sym back) in
    rw (none, nothing)
entries_of-append literals more hints others (first ∷ shapes) behind front back =
    let fits : literals_of first + sum_by literals_of shapes ≡ length literals = sym (literals-cons first shapes) ∙ front in
    let hits : hints_of first + sum_by hints_of shapes ≡ length hints = sym (hints-cons first shapes) ∙ back in
    rw (
      entry_at-append literals more hints others first (omega arith) (omega arith),
      drop-append-le (literals_of first) literals more (omega arith),
      drop-append-le (hints_of first) hints others (omega arith),
    ) (ap (λ es. entry_at literals hints first ∷ es)
    (entries_of-append (drop (literals_of first) literals) more (drop (hints_of first) hints) others shapes behind
    (omega (arith, length-drop (literals_of first) literals)) (omega (arith, length-drop (hints_of first) hints))))

-- a lemma behind the others
pub entries_of-push_lemma : (literals more : List ℤ) (hints others : List ℕ) (shapes : List Shape) →
    sum_by literals_of shapes ≡ length literals → sum_by hints_of shapes ≡ length hints →
    entries_of (literals ++ more) (hints ++ others) (shapes ++ shape.Lemma (length more) (length others) ∷ []) ≡ entries_of literals hints shapes ++ Lemma more others ∷ []
entries_of-push_lemma literals more hints others shapes front back =
    entries_of-append literals more hints others shapes (shape.Lemma (length more) (length others) ∷ []) front back
    ∙ rw (take_all (length more) more (omega arith), take_all (length others) others (omega arith))

-- a drop behind the others
pub entries_of-push_drop : (literals : List ℤ) (hints : List ℕ) (shapes : List Shape) (number : ℕ) →
    entries_of literals hints (shapes ++ shape.Forget number ∷ []) ≡ entries_of literals hints shapes ++ Forget number ∷ []
entries_of-push_drop literals hints [] number = refl
entries_of-push_drop literals hints (first ∷ shapes) number =
    ap (λ es. entry_at literals hints first ∷ es) (entries_of-push_drop (drop (literals_of first) literals) (drop (hints_of first) hints) shapes number)

abbrev as_number : Bool → ℕ
as_number b = cond b 1 0

-- the lemmas
is_lemma-entry_at : (literals : List ℤ) (hints : List ℕ) (first : Shape) → is_lemma (entry_at literals hints first) ≡ is_lemma_shape first
is_lemma-entry_at literals hints (shape.Lemma some few) = refl
is_lemma-entry_at literals hints (shape.Forget number) = refl

pub lemmas_of-entries : (literals : List ℤ) (hints : List ℕ) (shapes : List Shape) → lemmas (entries_of literals hints shapes) ≡ count_by is_lemma_shape shapes
lemmas_of-entries literals hints [] = refl
lemmas_of-entries literals hints (first ∷ shapes) =
    omega (
      arith,
      sum_by-cons (λ e. as_number (is_lemma e)) (entry_at literals hints first) (entries_of (drop (literals_of first) literals) (drop (hints_of first) hints) shapes),
      sum_by-cons (λ s. as_number (is_lemma_shape s)) first shapes,
      ap as_number (is_lemma-entry_at literals hints first),
      lemmas_of-entries (drop (literals_of first) literals) (drop (hints_of first) hints) shapes,
    )

-- the words
words-entry_at : (literals : List ℤ) (hints : List ℕ) (first : Shape) → literals_of first ≤ length literals → hints_of first ≤ length hints →
    entry_words (entry_at literals hints first) ≡ literals_of first + hints_of first + 2 * cond (is_lemma_shape first) 1 0
words-entry_at literals hints (shape.Lemma some few) front back =
    omega (arith, length-take-le some literals front, length-take-le few hints back)
words-entry_at literals hints (shape.Forget number) front back = refl

pub words_of-entries : (literals : List ℤ) (hints : List ℕ) (shapes : List Shape) →
    sum_by literals_of shapes ≡ length literals → sum_by hints_of shapes ≡ length hints →
    log_words (entries_of literals hints shapes) ≡ length literals + length hints + 2 * count_by is_lemma_shape shapes
words_of-entries literals hints [] front back = omega (arith, front, back)
words_of-entries literals hints (first ∷ shapes) front back =
    let fits : literals_of first + sum_by literals_of shapes ≡ length literals = sym (literals-cons first shapes) ∙ front in
    let hits : hints_of first + sum_by hints_of shapes ≡ length hints = sym (hints-cons first shapes) ∙ back in
    omega (
      arith,
      sum_by-cons entry_words (entry_at literals hints first) (entries_of (drop (literals_of first) literals) (drop (hints_of first) hints) shapes),
      sum_by-cons (λ s. as_number (is_lemma_shape s)) first shapes,
      words-entry_at literals hints first (omega arith) (omega arith),
      words_of-entries (drop (literals_of first) literals) (drop (hints_of first) hints) shapes
          (omega (arith, length-drop (literals_of first) literals)) (omega (arith, length-drop (hints_of first) hints)),
      length-drop (literals_of first) literals,
      length-drop (hints_of first) hints,
    )

-- what a push keeps
last : (f : Shape → ℕ) (shapes : List Shape) (new : Shape) → sum_by f (shapes ++ new ∷ []) ≡ sum_by f shapes + f new
last f shapes new = omega (arith, sum_by-append f shapes (new ∷ []), sum_by-cons f new [])

pub packed-push_lemma : (literals more : List ℤ) (hints others : List ℕ) (shapes : List Shape) → IsPacked literals hints shapes → IsTrue (is_entry (Lemma more others)) →
    IsPacked (literals ++ more) (hints ++ others) (shapes ++ shape.Lemma (length more) (length others) ∷ [])
packed-push_lemma literals more hints others shapes packed new = record {
  literals_covered = omega (arith, last literals_of shapes (shape.Lemma (length more) (length others)), packed.literals_covered, length-append literals more);
  hints_covered = omega (arith, last hints_of shapes (shape.Lemma (length more) (length others)), packed.hints_covered, length-append hints others);
  entries = rw (entries_of-push_lemma literals more hints others shapes packed.literals_covered packed.hints_covered)
      (all_entries_push (entries_of literals hints shapes) (Lemma more others) packed.entries new);
}

pub packed-push_drop : (literals : List ℤ) (hints : List ℕ) (shapes : List Shape) (number : ℕ) → IsPacked literals hints shapes → IsTrue (is_entry (Forget number)) →
    IsPacked literals hints (shapes ++ shape.Forget number ∷ [])
packed-push_drop literals hints shapes number packed new = record {
  literals_covered = omega (arith, last literals_of shapes (shape.Forget number), packed.literals_covered);
  hints_covered = omega (arith, last hints_of shapes (shape.Forget number), packed.hints_covered);
  entries = rw (entries_of-push_drop literals hints shapes number) (all_entries_push (entries_of literals hints shapes) (Forget number) packed.entries new);
}

-- the count of lemmas after a push
pub count-push : (shapes : List Shape) (new : Shape) → count_by is_lemma_shape (shapes ++ new ∷ []) ≡ count_by is_lemma_shape shapes + cond (is_lemma_shape new) 1 0
count-push shapes new = last (λ s. as_number (is_lemma_shape s)) shapes new
