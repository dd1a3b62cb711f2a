-- f U g on a course: some walk leads over places with f to one with g.
use Rattle.std.proofs.Common.{refl, sym, subst, ℕ, zero, suc, ◌<◌, Bool as Truth, None, arith}
use Rattle.std.specs.Prelude.{◌↔◌, IsTrue}
use Rattle.psl_tree.specs.Classical.{Exists}
use Rattle.psl_tree.specs.Satisfaction.{Sat}
use Rattle.psl_tree.specs.Trace.{Trace, suffix}
use Rattle.psl_tree.proofs.Choice.{from-exists, exists-same}
use Rattle.psl_tree.specs.Trees.{Formula, Until}
use Rattle.alternating_theory.specs.Courses.{Course, walk, read_from}
use Rattle.alternating_theory.proofs.Walks.{suffix-read}

abbrev pub Reaches : (ℕ → ℕ) → (ℕ → Type 0) → (ℕ → Type 0) → ℕ → Type 0
Reaches next F G p = Exists (λ k. G (walk next k p) × ((j : ℕ) → j < k → F (walk next j p)))

pub reaches-until : (c : Course) (f g : Formula) (p : ℕ) → Reaches c.next (λ q. Sat (read_from c q) f None) (λ q. Sat (read_from c q) g None) p ↔ Sat (read_from c p) (Until f g) None
reaches-until c f g p = exists-same (λ k. (
  λ u. (refl, back g k u.0, λ j l. back f j (u.1 j l)),
  λ u. (there g k u.1, λ j l. there f j (u.2 j l)),
))
  where
    back : (h : Formula) (i : ℕ) → Sat (read_from c (walk c.next i p)) h None → Sat (suffix (read_from c p) i) h None
    back h i s = subst (λ (v : Trace). Sat v h None) (sym (suffix-read c p i)) s

    there : (h : Formula) (i : ℕ) → Sat (suffix (read_from c p) i) h None → Sat (read_from c (walk c.next i p)) h None
    there h i s = subst (λ (v : Trace). Sat v h None) (suffix-read c p i) s

module _ (next : ℕ → ℕ) (F G : ℕ → Type 0) where
  pub reaches-here : (p : ℕ) → G p → Reaches next F G p
  reaches-here p g none = none 0 (g, λ j l. absurd (omega arith))

  pub reaches-later : (p : ℕ) → F p → Reaches next F G (next p) → Reaches next F G p
  reaches-later p f r none = r (λ k u. none (suc k) (u.0, λ j l. at k j u.1 l))
    where
      at : (k j : ℕ) → ((i : ℕ) → i < k → F (walk next i (next p))) → j < suc k → F (walk next j p)
      at k zero h l = f
      at k (suc j) h l = h j (omega arith)

  -- a set of places below a bound that has the places with G, and those with F whose next place it has
  pub reaches-least : (n : ℕ) → ((q : ℕ) → q < n → next q < n) → (S : ℕ → Truth) → ((q : ℕ) → q < n → G q → IsTrue (S q))
      → ((q : ℕ) → q < n → F q → IsTrue (S (next q)) → IsTrue (S q)) → (p : ℕ) → p < n → Reaches next F G p → IsTrue (S p)
  reaches-least n stays S here later p h r = from-exists (S p) r (λ k u. at k p h u.0 u.1)
    where
      at : (k q : ℕ) → q < n → G (walk next k q) → ((j : ℕ) → j < k → F (walk next j q)) → IsTrue (S q)
      at zero q l g f = here q l g
      at (suc k) q l g f = later q l (f 0 (omega arith)) (at k (next q) (stays q l) g (λ j m. f (suc j) (omega arith)))
