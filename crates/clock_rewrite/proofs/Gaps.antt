-- Traces without gaps: each place before a place is one too. The trace of a word has none.
use Rattle.std.proofs.Common.{◌≡◌, refl, sym, ap, subst, ℕ, suc, ◌+◌, ◌-◌, ◌%◌, ◌<◌, ◌≤◌, Bool, true, false, List, [], ◌∷◌, length, Some, arith}
use Rattle.std.specs.Prelude.{IsTrue, is_some, nat_lt, if◌then◌else◌, slice_get}
use Rattle.std.proofs.lemmas.Bool.{le-ltb, ltb-true}
use Rattle.std.proofs.lemmas.Option.{slice_get-get_or}
use Rattle.clock_rewrite.proofs.Letters.{stands-dual}
use Rattle.psl_tree.specs.Trace.{Trace, for_ever, after, trace_of, suffix, dual, cut, is_place}
use Rattle.psl_tree.specs.declared.letter.Letter.{Letter}
use Rattle.psl_tree.specs.declared.letter.Letter.TheVariants.{Top}
use Rattle.psl_tree.specs.declared.letter.Word.{Word}

abbrev pub HasNoGaps : Trace → Type 0
HasNoGaps w = (i j : ℕ) → i ≤ j → IsTrue (is_place w j) → IsTrue (is_place w i)

pub suffix-gaps : (w : Trace) (k : ℕ) → HasNoGaps w → HasNoGaps (suffix w k)
suffix-gaps w k g i j le p = g (k + i) (k + j) (omega arith) p

pub place-dual : (w : Trace) (k : ℕ) → IsTrue (is_place w k) → IsTrue (is_place (dual w) k)
place-dual w k p = subst (λ (b : Bool). IsTrue b) (sym (stands-dual (w k))) p

pub place-undual : (w : Trace) (k : ℕ) → IsTrue (is_place (dual w) k) → IsTrue (is_place w k)
place-undual w k p = subst (λ (b : Bool). IsTrue b) (stands-dual (w k)) p

pub dual-gaps : (w : Trace) → HasNoGaps w → HasNoGaps (dual w)
dual-gaps w g i j le p = place-dual w i (g i j le (place-undual w j p))

pub cut-gaps : (w : Trace) (j : ℕ) → HasNoGaps w → IsTrue (is_place w j) → HasNoGaps (cut w j)
cut-gaps w j g p i k le q = by_test (nat_lt i j) refl
  where
    by_test : (b : Bool) → nat_lt i j ≡ b → IsTrue (is_some (if b then w i else Some Top))
    by_test true e = let lt : i < j = ltb-true i j e in g i j (omega arith) p
    by_test false e = refl

-- the same of a cut past the place
pub cut-gaps_past : (w : Trace) (j : ℕ) → HasNoGaps w → IsTrue (is_place w j) → HasNoGaps (cut w (suc j))
cut-gaps_past w j g p i k le q = by_test (nat_lt i (suc j)) refl
  where
    by_test : (b : Bool) → nat_lt i (suc j) ≡ b → IsTrue (is_some (if b then w i else Some Top))
    by_test true e = let lt : i < suc j = ltb-true i (suc j) e in g i j (omega arith) p
    by_test false e = refl

within : (xs : List Letter) (i : ℕ) → i < length xs → IsTrue (is_some (slice_get xs i))
within xs i lt = ap is_some (slice_get-get_or xs i Top lt)

for_ever-gaps : (xs : List Letter) → HasNoGaps (for_ever xs)
for_ever-gaps [] i j le p = p
for_ever-gaps (x ∷ xs) i j le p = within (x ∷ xs) (i % length (x ∷ xs)) (grind arith)

after-gaps : (xs : List Letter) (w : Trace) → HasNoGaps w → HasNoGaps (after xs w)
after-gaps xs w g i j le p = by_test (nat_lt i (length xs)) refl
  where
    by_test : (b : Bool) → nat_lt i (length xs) ≡ b → IsTrue (is_some (if b then slice_get xs i else w (i - length xs)))
    by_test true e = within xs i (ltb-true i (length xs) e)
    by_test false e = let ge : length xs ≤ i = grind (arith, e) in
        g (i - length xs) (j - length xs) (omega arith)
        (subst (λ (b : Bool). IsTrue (is_some (if b then slice_get xs j else w (j - length xs)))) (le-ltb j (length xs) (omega arith)) p)

pub word-gaps : (word : Word) → HasNoGaps (trace_of word)
word-gaps word = after-gaps word.stem (for_ever word.looped) (for_ever-gaps word.looped)
