-- Laws of walks, and of the traces that are read from places.
use Rattle.std.proofs.Common.{◌≡◌, refl, ap, ◌∙◌, ℕ, zero, suc, ◌+◌, ◌<◌, [], ◌∷◌, Some}
use mathlib.Core.Path.{fun_ext}
use Rattle.psl_tree.specs.Followed.{Tops, Bottoms, followed}
use Rattle.psl_tree.specs.Trace.{Trace, suffix, dual, first}
use Rattle.psl_tree.proofs.Traces.{zero-plus, suc-plus, behind}
use Rattle.psl_tree.specs.declared.letter.Letter.TheVariants.{Top, Bottom}
use Rattle.alternating_theory.specs.Courses.{Course, walk, read_from, opposite}

pub walk-sum : (next : ℕ → ℕ) (i k p : ℕ) → walk next (i + k) p ≡ walk next k (walk next i p)
walk-sum next zero k p = ap (λ n. walk next n p) (zero-plus k)
walk-sum next (suc i) k p = ap (λ n. walk next n p) (suc-plus i k) ∙ walk-sum next i k (next p)

-- one step after a walk
pub walk-last : (next : ℕ → ℕ) (k p : ℕ) → walk next (suc k) p ≡ next (walk next k p)
walk-last next zero p = refl
walk-last next (suc k) p = walk-last next k (next p)

-- a place that is its own next place
pub walk-stays : (next : ℕ → ℕ) (p : ℕ) → next p ≡ p → (k : ℕ) → walk next k p ≡ p
walk-stays next p e zero = refl
walk-stays next p e (suc k) = ap (λ q. walk next k q) e ∙ walk-stays next p e k

pub walk-below : (next : ℕ → ℕ) (n : ℕ) → ((p : ℕ) → p < n → next p < n) → (k p : ℕ) → p < n → walk next k p < n
walk-below next n b zero p h = h
walk-below next n b (suc k) p h = walk-below next n b k (next p) (b p h)

pub suffix-read : (c : Course) (p i : ℕ) → suffix (read_from c p) i ≡ read_from c (walk c.next i p)
suffix-read c p i = fun_ext (λ k. ap (λ q. Some (c.letter q)) (walk-sum c.next i k p))

pub suffix-next : (c : Course) (p : ℕ) → suffix (read_from c p) 1 ≡ read_from c (c.next p)
suffix-next c p = suffix-read c p 1

pub dual-read : (c : Course) (p : ℕ) → dual (read_from c p) ≡ read_from (opposite c) p
dual-read c p = refl

pub read-behind : (c : Course) (p : ℕ) → read_from c p ≡ behind (c.letter p) (read_from c (c.next p))
read-behind c p = fun_ext (λ k. at k)
  where
    at : (k : ℕ) → read_from c p k ≡ behind (c.letter p) (read_from c (c.next p)) k
    at zero = refl
    at (suc k) = refl

pub first-read : (c : Course) (p n : ℕ) → first (suc n) (read_from c p) ≡ c.letter p ∷ first n (read_from c (c.next p))
first-read c p n = ap (λ (v : Trace). c.letter p ∷ first n v) (suffix-next c p)

-- the place of Top for ever, and that of Bottom for ever
pub read-tops : (c : Course) (p : ℕ) → c.letter p ≡ Top → c.next p ≡ p → read_from c p ≡ followed [] Tops
read-tops c p l e = fun_ext (λ k. ap (λ q. Some (c.letter q)) (walk-stays c.next p e k) ∙ ap Some l)

pub read-bottoms : (c : Course) (p : ℕ) → c.letter p ≡ Bottom → c.next p ≡ p → read_from c p ≡ followed [] Bottoms
read-bottoms c p l e = fun_ext (λ k. ap (λ q. Some (c.letter q)) (walk-stays c.next p e k) ∙ ap Some l)
