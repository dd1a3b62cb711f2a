-- r!, r |-> f and r on a course, by the states of r's automaton at the places: which paths lead on from
-- a state at a place, as sets that are closed, and from above.
use Rattle.std.proofs.Common.{◌≡◌, ◌⊎◌, inl, inr, refl, sym, ap, subst, ℕ, zero, suc, ◌+◌, ◌≤◌, ◌<◌, Bool as Truth, true, false, List, [], ◌∷◌, length, None, Some, arith}
use Rattle.std.specs.Prelude.{◌↔◌, IsTrue, nat_lt, is_some, if◌then◌else◌}
use Rattle.std.proofs.lemmas.Bool.{both_ways, cases_Bool}
use mathlib.Core.Path.{fun_ext}
use Rattle.psl_tree.specs.Classical.{Exists}
use Rattle.psl_tree.specs.Clockless.{HasNoClock}
use Rattle.psl_tree.specs.Followed.{Tops, followed}
use Rattle.psl_tree.specs.Satisfaction.{Sat}
use Rattle.psl_tree.specs.Tight.{Tight}
use Rattle.psl_tree.specs.Trace.{Trace, dual_letter, first, cut, is_place}
use Rattle.psl_tree.proofs.Choice.{from-exists, exists-map, exists-same}
use Rattle.psl_tree.proofs.Traces.{behind, zero-below, suc-below, cut-zero}
use Rattle.psl_tree.specs.Holds.{holds}
use Rattle.psl_tree.specs.Trees.{Sequence, Formula, Strong, Weak, Suffix}
use Rattle.psl_tree.specs.declared.letter.Letter.{Letter}
use Rattle.psl_tree.specs.declared.letter.Letter.TheVariants.{Top}
use Rattle.psl_tree.specs.SequenceAutomata.{Edge, State, state_at, AcceptsFrom, Accepts}
use Rattle.psl_tree.specs.SequenceConstruction as sequences
use Rattle.psl_tree.specs.SequenceConstruction.{nfa_of}
use Rattle.psl_tree.proofs.SequenceAutomata.{finished-accepts}
use Rattle.psl_tree.proofs.SequenceMeans.{part-means}
use Rattle.psl_tree.proofs.SequenceSteps.{StepTo, take-step, make-step}
use Rattle.alternating_theory.specs.Courses.{Course, walk, read_from, opposite}
use Rattle.alternating_theory.proofs.Raised.{cut-later, first-more, accepts-more}
use Rattle.alternating_theory.proofs.Walks.{suffix-read, first-read}

-- the number of the one initial state
abbrev pub start_of : Sequence → ℕ
start_of r = length (sequences.part_of 0 r).states

-- from the initial state the automaton accepts what the sequence describes
pub accepts-tight : (r : Sequence) → HasNoClock r → (xs : List Letter) → AcceptsFrom (nfa_of r).states (start_of r) xs ↔ Tight None r xs
accepts-tight r n xs = (λ h. (whole).0 (inl h), λ t. elim (whole.1 t) as (λ _. AcceptsFrom (nfa_of r).states (start_of r) xs) [ inl h ↦ h | inr z ↦ absurd z ])
  where
    whole : Accepts (nfa_of r) xs ↔ Tight None r xs
    whole = finished-accepts (sequences.part_of 0 r) r (part-means 0 r n) xs

module _ (states : List State) where
  -- a list may end in the state
  abbrev pub Ends : ℕ → Type 0
  Ends q = IsTrue (state_at states q).is_final

  abbrev pub To : ℕ → Letter → ℕ → Type 0
  To q x t = StepTo (state_at states q).edges x t

  -- a non-empty prefix of the trace is read from the state
  abbrev pub Reads : Trace → ℕ → Type 0
  Reads w q = Exists (λ i. AcceptsFrom states q (first (suc i) w))

  first-behind : (x : Letter) (w : Trace) (n : ℕ) → first (suc n) (behind x w) ≡ x ∷ first n w
  first-behind x w n = ap (λ (v : Trace). x ∷ first n v) (fun_ext (λ k. ap (behind x w) (one-more k)))
    where
      one-more : (k : ℕ) → 1 + k ≡ suc k
      one-more k = omega arith

  -- one step before a path
  step-accepts : (x : Letter) (w : Trace) (q t n : ℕ) → To q x t → AcceptsFrom states t (first n w) → AcceptsFrom states q (first (suc n) (behind x w))
  step-accepts x w q t n s h = subst (λ (l : List Letter). AcceptsFrom states q l) (sym (first-behind x w n))
      (make-step (state_at states q).edges x t (λ r. AcceptsFrom states r (first n w)) s h)

  accepts-step : (x : Letter) (w : Trace) (q n : ℕ) → AcceptsFrom states q (first (suc n) (behind x w)) → (t : ℕ) × To q x t × AcceptsFrom states t (first n w)
  accepts-step x w q n h = take-step (state_at states q).edges x (λ r. AcceptsFrom states r (first n w))
      (subst (λ (l : List Letter). AcceptsFrom states q l) (first-behind x w n) h)

  pub reads-end : (x : Letter) (w : Trace) (q t : ℕ) → To q x t → Ends t → Reads (behind x w) q
  reads-end x w q t s e none = none 0 (step-accepts x w q t 0 s e)

  pub reads-more : (x : Letter) (w : Trace) (q t : ℕ) → To q x t → Reads w t → Reads (behind x w) q
  reads-more x w q t s r none = r (λ i h. none (suc i) (step-accepts x w q t (suc i) s h))

  pub reads-split : (x : Letter) (w : Trace) (q : ℕ) → Reads (behind x w) q → ((t : ℕ) → To q x t → Ends t → ⊥) → ((t : ℕ) → To q x t → Reads w t → ⊥) → ⊥
  reads-split x w q r ends more = r (λ i h. at i (accepts-step x w q i h))
    where
      at : (i : ℕ) → ((t : ℕ) × To q x t × AcceptsFrom states t (first i w)) → ⊥
      at zero s = ends s.0 s.1 s.2
      at (suc i) s = more s.0 s.1 (λ none. none i s.2)

  module _ (c : Course) where
    -- one step from a place
    read-step : (p q t n : ℕ) → To q (c.letter p) t → AcceptsFrom states t (first n (read_from c (c.next p))) → AcceptsFrom states q (first (suc n) (read_from c p))
    read-step p q t n s h = subst (λ (l : List Letter). AcceptsFrom states q l) (sym (first-read c p n))
        (make-step (state_at states q).edges (c.letter p) t (λ r. AcceptsFrom states r (first n (read_from c (c.next p)))) s h)

    step-read : (p q n : ℕ) → AcceptsFrom states q (first (suc n) (read_from c p)) → (t : ℕ) × To q (c.letter p) t × AcceptsFrom states t (first n (read_from c (c.next p)))
    step-read p q n h = take-step (state_at states q).edges (c.letter p) (λ r. AcceptsFrom states r (first n (read_from c (c.next p))))
        (subst (λ (l : List Letter). AcceptsFrom states q l) (first-read c p n) h)

    -- a path from the state leads to an end, and its last letter is read at a place that is hit
    abbrev pub Hits : (ℕ → Type 0) → ℕ → ℕ → Type 0
    Hits hit p q = Exists (λ j. AcceptsFrom states q (first (suc j) (read_from c p)) × hit (walk c.next j p))

    module _ (hit : ℕ → Type 0) where
      pub hits-here : (p q t : ℕ) → To q (c.letter p) t → Ends t → hit p → Hits hit p q
      hits-here p q t s e h none = none 0 (read-step p q t 0 s e, h)

      pub hits-later : (p q t : ℕ) → To q (c.letter p) t → Hits hit (c.next p) t → Hits hit p q
      hits-later p q t s r none = r (λ j u. none (suc j) (read-step p q t (suc j) s u.0, u.1))

      -- a set of cells that has what ends at a hit, and what leads to a cell that it has
      pub hits-least : (n : ℕ) → ((p : ℕ) → p < n → c.next p < n) → (Live : ℕ → Type 0) → ((q : ℕ) (y : Letter) (ys : List Letter) → AcceptsFrom states q (y ∷ ys) → Live q)
          → (S : ℕ → ℕ → Truth)
          → ((p q t : ℕ) → p < n → To q (c.letter p) t → Ends t → hit p → IsTrue (S p q))
          → ((p q t : ℕ) → p < n → To q (c.letter p) t → Live t → IsTrue (S (c.next p) t) → IsTrue (S p q))
          → (p q : ℕ) → p < n → Hits hit p q → IsTrue (S p q)
      hits-least n stays Live live S here later p q l h = from-exists (S p q) h (λ j u. at j p q l u.0 u.1)
        where
          alive : (p q j : ℕ) → AcceptsFrom states q (first (suc j) (read_from c p)) → Live q
          alive p q j h = live q (c.letter p) (first j (read_from c (c.next p))) (subst (λ (l : List Letter). AcceptsFrom states q l) (first-read c p j) h)

          at : (j p q : ℕ) → p < n → AcceptsFrom states q (first (suc j) (read_from c p)) → hit (walk c.next j p) → IsTrue (S p q)
          at zero p q l h g = let s = step-read p q 0 h in here p q s.0 l s.1 s.2 g
          at (suc j) p q l h g = let s = step-read p q (suc j) h in later p q s.0 l s.1 (alive (c.next p) s.0 j s.2) (at j (c.next p) s.0 (stays p l) s.2 g)

    pub hits-strong : (r : Sequence) → HasNoClock r → (p : ℕ) → states ≡ (nfa_of r).states → Hits (λ _. Unit {0}) p (start_of r) ↔ Sat (read_from c p) (Strong r) None
    hits-strong r n p e = exists-same (λ j. (
      λ u. (refl, (accepts-tight r n (first (suc j) (read_from c p))).0 (subst (λ (ss : List State). AcceptsFrom ss (start_of r) (first (suc j) (read_from c p))) e u.0)),
      λ u. (subst (λ (ss : List State). AcceptsFrom ss (start_of r) (first (suc j) (read_from c p))) (sym e) ((accepts-tight r n (first (suc j) (read_from c p))).1 u.1), tt),
    ))

    -- each path whose letters are the duals leads to a place with F
    abbrev pub Follows : (ℕ → Type 0) → ℕ → ℕ → Type 0
    Follows F p q = (j : ℕ) → AcceptsFrom states q (first (suc j) (read_from (opposite c) p)) → F (walk c.next j p)

    pub follows-suffix : (r : Sequence) → HasNoClock r → (f : Formula) (p : ℕ) → states ≡ (nfa_of r).states
        → Follows (λ q. Sat (read_from c q) f None) p (start_of r) ↔ Sat (read_from c p) (Suffix r f) None
    follows-suffix r n f p e = (
      λ h j l t. subst (λ (v : Trace). Sat v f None) (sym (suffix-read c p j)) (h j
          (subst (λ (ss : List State). AcceptsFrom ss (start_of r) (first (suc j) (read_from (opposite c) p))) (sym e) ((accepts-tight r n (first (suc j) (read_from (opposite c) p))).1 t))),
      λ h j a. subst (λ (v : Trace). Sat v f None) (suffix-read c p j) (h j refl
          ((accepts-tight r n (first (suc j) (read_from (opposite c) p))).0 (subst (λ (ss : List State). AcceptsFrom ss (start_of r) (first (suc j) (read_from (opposite c) p))) e a))),
    )

    module _ (F : ℕ → Type 0) where
      pub follows-here : (p q t : ℕ) → To q (dual_letter (c.letter p)) t → Ends t → Follows F p q → F p
      follows-here p q t s e h = h 0 (subst (λ (l : List Letter). AcceptsFrom states q l) (sym (first-read (opposite c) p 0))
          (make-step (state_at states q).edges (dual_letter (c.letter p)) t (λ r. AcceptsFrom states r []) s e))

      pub follows-later : (p q t : ℕ) → To q (dual_letter (c.letter p)) t → Follows F p q → Follows F (c.next p) t
      follows-later p q t s h j a = h (suc j) (subst (λ (l : List Letter). AcceptsFrom states q l) (sym (first-read (opposite c) p (suc j)))
          (make-step (state_at states q).edges (dual_letter (c.letter p)) t (λ r. AcceptsFrom states r (first (suc j) (read_from (opposite c) (c.next p)))) s a))

      -- a set of cells of which each that ends stands at a place with F, and leads to cells of the set alone
      pub follows-most : (n : ℕ) → ((p : ℕ) → p < n → c.next p < n) → (Live : ℕ → Type 0) → ((q : ℕ) (y : Letter) (ys : List Letter) → AcceptsFrom states q (y ∷ ys) → Live q)
          → (S : ℕ → ℕ → Truth)
          → ((p q t : ℕ) → p < n → IsTrue (S p q) → To q (dual_letter (c.letter p)) t → Ends t → F p)
          → ((p q t : ℕ) → p < n → IsTrue (S p q) → To q (dual_letter (c.letter p)) t → Live t → IsTrue (S (c.next p) t))
          → (p q : ℕ) → p < n → IsTrue (S p q) → Follows F p q
      follows-most n stays Live live S here later p q l h j a = at j p q l h a
        where
          step : (p q k : ℕ) → AcceptsFrom states q (first (suc k) (read_from (opposite c) p))
              → (t : ℕ) × To q (dual_letter (c.letter p)) t × AcceptsFrom states t (first k (read_from (opposite c) (c.next p)))
          step p q k a = take-step (state_at states q).edges (dual_letter (c.letter p)) (λ r. AcceptsFrom states r (first k (read_from (opposite c) (c.next p))))
              (subst (λ (l : List Letter). AcceptsFrom states q l) (first-read (opposite c) p k) a)

          alive : (p q k : ℕ) → AcceptsFrom states q (first (suc k) (read_from (opposite c) p)) → Live q
          alive p q k a = live q (dual_letter (c.letter p)) (first k (read_from (opposite c) (c.next p)))
              (subst (λ (l : List Letter). AcceptsFrom states q l) (first-read (opposite c) p k) a)

          at : (j p q : ℕ) → p < n → IsTrue (S p q) → AcceptsFrom states q (first (suc j) (read_from (opposite c) p)) → F (walk c.next j p)
          at zero p q l h a = let s = step p q 0 a in here p q s.0 l h s.1 s.2
          at (suc j) p q l h a = let s = step p q (suc j) a in at j (c.next p) s.0 (stays p l) (later p q s.0 l h s.1 (alive (c.next p) s.0 j s.2)) s.2

    -- a prefix is read from the state wherever the trace is cut
    abbrev pub Lasts : ℕ → ℕ → Type 0
    Lasts p q = (j : ℕ) → Reads (cut (read_from c p) (suc j)) q

    pub cut-place : (p j i : ℕ) → IsTrue (is_place (cut (read_from c p) j) i)
    cut-place p j i = at (nat_lt i j)
      where
        at : (t : Truth) → IsTrue (is_some (if t then read_from c p i else Some Top))
        at true = refl
        at false = refl

    pub lasts-weak : (r : Sequence) → HasNoClock r → (p : ℕ) → states ≡ (nfa_of r).states → Lasts p (start_of r) ↔ Sat (read_from c p) (Weak r) None
    lasts-weak r n p e = (
      λ h j l. exists-map (λ i a. (
        cut-place p (suc j) i,
        (accepts-tight r n (first (suc i) (cut (read_from c p) (suc j)))).0
            (subst (λ (ss : List State). AcceptsFrom ss (start_of r) (first (suc i) (cut (read_from c p) (suc j)))) e a),
      )) (h j),
      λ h j. exists-map (λ i a. subst (λ (ss : List State). AcceptsFrom ss (start_of r) (first (suc i) (cut (read_from c p) (suc j)))) (sym e)
          ((accepts-tight r n (first (suc i) (cut (read_from c p) (suc j)))).1 a.1)) (h j refl),
    )

    pub cut-read : (p j : ℕ) → cut (read_from c p) (suc j) ≡ behind (c.letter p) (cut (read_from c (c.next p)) j)
    cut-read p j = fun_ext (λ k. at k)
      where
        at : (k : ℕ) → cut (read_from c p) (suc j) k ≡ behind (c.letter p) (cut (read_from c (c.next p)) j) k
        at zero = rw (zero-below j) refl
        at (suc k) = rw (suc-below k j) refl

    -- cut later, less is read
    reads-later : (p q i j : ℕ) → i ≤ j → Reads (cut (read_from c p) (suc j)) q → Reads (cut (read_from c p) (suc i)) q
    reads-later p q i j l r = exists-map (λ k a. accepts-more states (first (suc k) (cut (read_from c p) (suc j))) (first (suc k) (cut (read_from c p) (suc i)))
        (first-more (suc k) (cut (read_from c p) (suc j)) (cut (read_from c p) (suc i)) (cut-later (λ m. c.letter (walk c.next m p)) (suc i) (suc j) (omega arith))) q a) r

    -- a set of cells of which each has a step to an end, or to a cell of the set from which Top for ever is read
    pub lasts-most : (n : ℕ) → ((p : ℕ) → p < n → c.next p < n) → (S : ℕ → ℕ → Truth)
        → ((p q : ℕ) → p < n → IsTrue (S p q) → (t : ℕ) × To q (c.letter p) t × (Ends t ⊎ (Reads (followed [] Tops) t × IsTrue (S (c.next p) t))))
        → (p q : ℕ) → p < n → IsTrue (S p q) → Lasts p q
    lasts-most n stays S step p q l h j = at j p q l h
      where
        one : (j p q : ℕ) → ((t : ℕ) → IsTrue (S (c.next p) t) → Reads (followed [] Tops) t → Reads (cut (read_from c (c.next p)) j) t)
            → ((t : ℕ) × To q (c.letter p) t × (Ends t ⊎ (Reads (followed [] Tops) t × IsTrue (S (c.next p) t)))) → Reads (cut (read_from c p) (suc j)) q
        one j p q more s = subst (λ (v : Trace). Reads v q) (sym (cut-read p j)) (elim s.2 as (λ _. Reads (behind (c.letter p) (cut (read_from c (c.next p)) j)) q) [
          | inl e ↦ reads-end (c.letter p) (cut (read_from c (c.next p)) j) q s.0 s.1 e
          | inr u ↦ reads-more (c.letter p) (cut (read_from c (c.next p)) j) q s.0 s.1 (more s.0 u.1 u.0)
        ])

        at : (j p q : ℕ) → p < n → IsTrue (S p q) → Reads (cut (read_from c p) (suc j)) q
        at zero p q l h = one 0 p q (λ t u r. subst (λ (v : Trace). Reads v t) (sym (cut-zero (read_from c (c.next p)))) r) (step p q l h)
        at (suc j) p q l h = one (suc j) p q (λ t u r. at j (c.next p) t (stays p l) u) (step p q l h)

    -- where each step leads to no end and to a state from which it does not last, it does not last
    pub lasts-falls : (p q : ℕ) → ((t : ℕ) → To q (c.letter p) t → Ends t → ⊥) → ((t : ℕ) → To q (c.letter p) t → Lasts (c.next p) t → ⊥) → Lasts p q → ⊥
    lasts-falls p q ends falls h = bound (state_at states q).edges falls (λ j g.
        reads-split (c.letter p) (cut (read_from c (c.next p)) (suc j)) q (subst (λ (v : Trace). Reads v q) (cut-read p (suc j)) (h (suc j))) ends g)
      where
        x : Letter
        x = c.letter p

        Fails : List Edge → ℕ → Type 0
        Fails es j = (t : ℕ) → StepTo es x t → Reads (cut (read_from c (c.next p)) (suc j)) t → ⊥

        skip : (e : Edge) (es : List Edge) (j : ℕ) → holds x e.label ≡ false → Fails es j → Fails (e ∷ es) j
        skip e es j n g t (inl s) r = both_ways (holds x e.label) n s.0
        skip e es j n g t (inr s) r = g t s r

        both : (e : Edge) (es : List Edge) (i j : ℕ) → Fails es i → (Reads (cut (read_from c (c.next p)) (suc j)) e.target → ⊥) → Fails (e ∷ es) (i + j)
        both e es i j g k t (inl s) r = k (subst (λ (n : ℕ). Reads (cut (read_from c (c.next p)) (suc j)) n) (sym s.1) (reads-later (c.next p) t j (i + j) (omega arith) r))
        both e es i j g k t (inr s) r = g t s (reads-later (c.next p) t i (i + j) (omega arith) r)

        bound : (es : List Edge) → ((t : ℕ) → StepTo es x t → Lasts (c.next p) t → ⊥) → ((j : ℕ) → Fails es j → ⊥) → ⊥
        bound [] f k = k 0 (λ t s r. s)
        bound (e ∷ es) f k = elim (cases_Bool (holds x e.label)) [
          | inl h ↦ bound es (λ t s. f t (inr s)) (λ i g. f e.target (inl (h, refl)) (λ j none. k (i + j) (both e es i j g (λ r. r none))))
          | inr n ↦ bound es (λ t s. f t (inr s)) (λ i g. k i (skip e es i n g))
        ]
