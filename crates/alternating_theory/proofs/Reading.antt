-- Prefixes of traces that are read over edges, letter by letter.
use Rattle.std.proofs.Common.{◌≡◌, ◌⊎◌, inl, inr, refl, sym, ap, subst, ℕ, zero, suc, ◌+◌, Bool as Truth, false, List, [], ◌∷◌, length, replicate, arith}
use Rattle.std.specs.Prelude.{IsTrue, Option, None, Some, is_some}
use Rattle.std.proofs.lemmas.Bool.{both_ways}
use mathlib.Core.Path.{fun_ext}
use Rattle.psl_tree.specs.Classical.{Exists}
use Rattle.psl_tree.specs.Followed.{Past, Tops, followed}
use Rattle.psl_tree.specs.Trace.{Trace, suffix, first, is_place, joined}
use Rattle.psl_tree.proofs.Choice.{from-exists}
use Rattle.psl_tree.proofs.Traces.{behind}
use Rattle.psl_tree.specs.declared.letter.Letter.{Letter}
use Rattle.psl_tree.specs.declared.letter.Letter.TheVariants.{Top}
use Rattle.psl_tree.specs.SequenceAutomata.{Edge, State, state_at, Steps, AcceptsFrom}
use Rattle.psl_tree.proofs.SequenceSteps.{Steps-map, StepTo, make-step}
use Rattle.alternating_theory.specs.Going.{goes_on}
use Rattle.alternating_theory.proofs.Edges.{On, LeadBelow, on-goes, goes-tops}
use Rattle.alternating_theory.proofs.Taken.{Ends}

-- a non-empty prefix of the trace is read over these edges
abbrev pub Reads : List State → Trace → List Edge → Type 0
Reads states w es = Exists (λ j. IsTrue (is_place w j) × On states es (first (suc j) w))

pub behind-suffix : (x : Letter) (w : Trace) → suffix (behind x w) 1 ≡ w
behind-suffix x w = fun_ext (λ k. ap (behind x w) (one-more k))
  where
    one-more : (k : ℕ) → 1 + k ≡ suc k
    one-more k = omega arith

pub first-behind : (x : Letter) (w : Trace) (n : ℕ) → first (suc n) (behind x w) ≡ x ∷ first n w
first-behind x w n = ap (λ (v : Trace). x ∷ first n v) (behind-suffix x w)

pub tops-first : (n : ℕ) → first n (followed [] Tops) ≡ replicate n Top
tops-first zero = refl
tops-first (suc n) = ap (λ (l : List Letter). Top ∷ l) (tops-first n)

-- what is read from a state is read over its edges
pub on-accepts : (states : List State) (q : ℕ) (ys : List Letter) → On states (state_at states q).edges ys → AcceptsFrom states q ys
on-accepts states q [] h = absurd h
on-accepts states q (y ∷ ys) h = h

-- and the other way, where the trace begins
pub accepts-on : (states : List State) (q n : ℕ) (w : Trace) → IsTrue (is_place w 0) → AcceptsFrom states q (first (suc n) w) → On states (state_at states q).edges (first (suc n) w)
accepts-on states q n w p h = at (w 0) p h
  where
    at : (o : Option Letter) → IsTrue (is_some o) → AcceptsFrom states q (joined o (first n (suffix w 1))) → On states (state_at states q).edges (joined o (first n (suffix w 1)))
    at None e a = absurd (both_ways false refl e)
    at (Some y) e a = a

module _ (states : List State) (x : Letter) (w : Trace) (es : List Edge) where
  pub reads-end : (t : ℕ) → StepTo es x t → Ends states t → Reads states (behind x w) es
  reads-end t s e none = none 0 (refl, make-step es x t (λ q. AcceptsFrom states q []) s e)

  pub reads-more : (t : ℕ) → StepTo es x t → Reads states w (state_at states t).edges → Reads states (behind x w) es
  reads-more t s r none = r (λ i u. none (suc i) (
    u.0,
    subst (λ (l : List Letter). On states es l) (sym (first-behind x w (suc i)))
        (make-step es x t (λ q. AcceptsFrom states q (first (suc i) w)) s (on-accepts states t (first (suc i) w) u.1)),
  ))

  -- a test that is true wherever a step leads to an end or to edges over which the rest is read
  pub reads-split : ((i : ℕ) → IsTrue (is_place w i) → IsTrue (is_place w 0)) → (b : Truth)
      → (Steps es x (λ t. Ends states t ⊎ Reads states w (state_at states t).edges) → IsTrue b) → Reads states (behind x w) es → IsTrue b
  reads-split begins b k r = from-exists b r at
    where
      at : (i : ℕ) → IsTrue (is_place (behind x w) i) × On states es (first (suc i) (behind x w)) → IsTrue b
      at zero u = k (Steps-map es x (λ q. AcceptsFrom states q []) (λ t. Ends states t ⊎ Reads states w (state_at states t).edges) (λ q h. inl h) u.1)
      at (suc i) u = k (Steps-map es x (λ q. AcceptsFrom states q (first (suc i) w)) (λ t. Ends states t ⊎ Reads states w (state_at states t).edges)
          (λ q h. inr (λ none. none i (u.0, accepts-on states q i w (begins i u.0) h)))
          (subst (λ (l : List Letter). On states es l) (first-behind x w (suc i)) u.1))

pub begins : (xs : List Letter) (p : Past) (i : ℕ) → IsTrue (is_place (followed xs p) i) → IsTrue (is_place (followed xs p) 0)
begins [] p i h = h
begins (x ∷ xs) p i h = refl

module _ (states : List State) (below : (q : ℕ) → LeadBelow (length states) (state_at states q).edges) where
  -- what is read over edges goes on
  pub reads-goes : (w : Trace) (es : List Edge) → Reads states w es → IsTrue (goes_on states es)
  reads-goes w es r = from-exists (goes_on states es) r (λ j u. on-goes states below es (first (suc j) w) u.1)

  pub goes-reads : (es : List Edge) → IsTrue (goes_on states es) → Reads states (followed [] Tops) es
  goes-reads es h none =
      let c = goes-tops states below es h in
      none c.0 (refl, subst (λ (l : List Letter). On states es l) (sym (tops-first (suc c.0))) c.1)
