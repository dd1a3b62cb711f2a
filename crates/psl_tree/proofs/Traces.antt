-- Laws of traces: suffixes, duals and cuts, and of the three views as words that something follows.
use Rattle.std.proofs.Common.{◌≡◌, refl, ap, ℕ, zero, suc, ◌+◌, ◌-◌, ◌%◌, Bool, true, false, List, [], ◌∷◌, length, map, Option, None, Some, arith}
use Rattle.std.specs.Prelude.{nat_lt, if◌then◌else◌, slice_get}
use Rattle.std.proofs.lemmas.Bool.{lt-ltb, le-ltb}
use Rattle.psl_tree.specs.Trace.{Trace, for_ever, after, trace_of, suffix, dual_letter, dual_at, dual, cut}
use Rattle.psl_tree.specs.Followed.{Past, Nothing, Tops, Bottoms, past_at, dual_past, followed}
use Rattle.psl_tree.specs.Views.{weak, neutral, strong}
use Rattle.psl_tree.specs.declared.letter.Letter.{Letter}
use Rattle.psl_tree.specs.declared.letter.Letter.TheVariants.{Top, Bottom, Holds}
use mathlib.Core.Path.{fun_ext}

-- numbers that do not compute

pub zero-plus : (k : ℕ) → 0 + k ≡ k
zero-plus k = omega arith

pub suc-plus : (j k : ℕ) → suc j + k ≡ suc (j + k)
suc-plus j k = omega arith

pub plus-zero : (k : ℕ) → k + 0 ≡ k
plus-zero k = omega arith

pub below-zero : (k : ℕ) → nat_lt k 0 ≡ false
below-zero k = le-ltb k 0 (omega arith)

pub zero-below : (k : ℕ) → nat_lt 0 (suc k) ≡ true
zero-below k = lt-ltb 0 (suc k) (omega arith)

pub suc-below : (j k : ℕ) → nat_lt (suc j) (suc k) ≡ nat_lt j k
suc-below j k = grind arith

pub suc-minus : (j k : ℕ) → suc j - suc k ≡ j - k
suc-minus j k = omega arith

pub over-one : (k : ℕ) → k % 1 ≡ 0
over-one k = omega arith

-- suffixes

pub suffix-zero : (w : Trace) → suffix w 0 ≡ w
suffix-zero w = fun_ext (λ k. ap w (zero-plus k))

-- a trace behind one letter
abbrev pub behind : Letter → Trace → Trace
behind x w zero = Some x
behind x w (suc k) = w k

pub followed-behind : (x : Letter) (xs : List Letter) (p : Past) → followed (x ∷ xs) p ≡ behind x (followed xs p)
followed-behind x xs p = fun_ext (λ k. at k)
  where
    at : (k : ℕ) → followed (x ∷ xs) p k ≡ behind x (followed xs p) k
    at zero = refl
    at (suc k) = refl

pub suffix-behind : (x : Letter) (xs : List Letter) (p : Past) (k : ℕ) → suffix (followed (x ∷ xs) p) (suc k) ≡ suffix (followed xs p) k
suffix-behind x xs p k = fun_ext (λ i. ap (followed (x ∷ xs) p) (suc-plus k i))

-- duals

pub dual_letter-twice : (x : Letter) → dual_letter (dual_letter x) ≡ x
dual_letter-twice Top = refl
dual_letter-twice Bottom = refl
dual_letter-twice (Holds atoms) = refl

pub dual_at-twice : (o : Option Letter) → dual_at (dual_at o) ≡ o
dual_at-twice None = refl
dual_at-twice (Some x) = ap Some (dual_letter-twice x)

pub dual-twice : (w : Trace) → dual (dual w) ≡ w
dual-twice w = fun_ext (λ k. dual_at-twice (w k))

pub dual_past-at : (p : Past) → dual_at (past_at p) ≡ past_at (dual_past p)
dual_past-at Nothing = refl
dual_past-at Tops = refl
dual_past-at Bottoms = refl

pub dual-followed : (xs : List Letter) (p : Past) → dual (followed xs p) ≡ followed (map dual_letter xs) (dual_past p)
dual-followed xs p = fun_ext (λ k. at xs k)
  where
    at : (ys : List Letter) (k : ℕ) → dual_at (followed ys p k) ≡ followed (map dual_letter ys) (dual_past p) k
    at [] k = dual_past-at p
    at (y ∷ ys) zero = refl
    at (y ∷ ys) (suc k) = at ys k

-- cuts

pub cut-zero : (w : Trace) → cut w 0 ≡ followed [] Tops
cut-zero w = fun_ext (λ k. at k)
  where
    at : (k : ℕ) → (if nat_lt k 0 then w k else Some Top) ≡ Some Top
    at k = rw (below-zero k) refl

pub cut-tops : (j : ℕ) → cut (followed [] Tops) j ≡ followed [] Tops
cut-tops j = fun_ext (λ k. at (nat_lt k j))
  where
    at : (b : Bool) → (if b then Some Top else Some Top) ≡ Some Top
    at true = refl
    at false = refl

pub cut-behind : (x : Letter) (xs : List Letter) (p : Past) (j : ℕ) → cut (followed (x ∷ xs) p) (suc j) ≡ behind x (cut (followed xs p) j)
cut-behind x xs p j = fun_ext (λ k. at k)
  where
    at : (k : ℕ) → cut (followed (x ∷ xs) p) (suc j) k ≡ behind x (cut (followed xs p) j) k
    at zero = rw (zero-below j) refl
    at (suc k) = rw (suc-below k j) refl

-- the views

pub after-followed : (v : Trace) (p : Past) → ((k : ℕ) → v k ≡ past_at p) → (xs : List Letter) (k : ℕ) → after xs v k ≡ followed xs p k
after-followed v p e [] k = rw (below-zero k) (e (k - 0))
after-followed v p e (x ∷ xs) zero = rw (zero-below (length xs)) refl
after-followed v p e (x ∷ xs) (suc k) = rw (suc-below k (length xs), suc-minus k (length xs)) (after-followed v p e xs k)

pub neutral-followed : (xs : List Letter) → trace_of (neutral xs) ≡ followed xs Nothing
neutral-followed xs = fun_ext (after-followed (for_ever []) Nothing (λ k. refl) xs)

pub weak-followed : (xs : List Letter) → trace_of (weak xs) ≡ followed xs Tops
weak-followed xs = fun_ext (after-followed (for_ever (Top ∷ [])) Tops (λ k. ap (slice_get (Top ∷ [])) (over-one k)) xs)

pub strong-followed : (xs : List Letter) → trace_of (strong xs) ≡ followed xs Bottoms
strong-followed xs = fun_ext (after-followed (for_ever (Bottom ∷ [])) Bottoms (λ k. ap (slice_get (Bottom ∷ [])) (over-one k)) xs)
