-- What meets the combinations over edges: that some edge is taken, and that none leads where it must not.
use Rattle.std.proofs.Common.{◌⊎◌, inl, inr, refl, sym, ◌∙◌, subst, ℕ, ◌+◌, ◌<◌, Bool as Truth, true, false, if◌then◌else◌, List, [], ◌∷◌, arith}
use Rattle.std.specs.Prelude.{IsTrue, ◌&&◌, ◌||◌}
use Rattle.std.proofs.lemmas.Bool.{or_cases, or_left, or_right, and_parts, and_from, both_ways, not-true, not_from_false, cases_Bool}
use Rattle.psl_tree.specs.Trace.{dual_letter}
use Rattle.psl_tree.specs.Holds.{holds}
use Rattle.psl_tree.specs.Trees as trees
use Rattle.psl_tree.specs.Trees.{Boolean}
use Rattle.psl_tree.specs.declared.letter.Letter.{Letter}
use Rattle.psl_tree.specs.SequenceAutomata.{Edge, State, state_at, Steps}
use Rattle.psl_tree.proofs.SequenceSteps.{StepTo}
use Rattle.alternating_theory.specs.Construction.{taken, going, quiet}
use Rattle.alternating_theory.specs.Going.{goes_on}
use Rattle.alternating_theory.specs.Positive.{Positive, Holds, Owed, And, Or, met, OwesWithin}
use Rattle.alternating_theory.proofs.MetLaws.{holds-not}
use Rattle.alternating_theory.proofs.Edges.{LeadBelow}

-- a list may end in the state
abbrev pub Ends : List State → ℕ → Type 0
Ends states q = IsTrue (state_at states q).is_final

-- some edge leads from the state to where an end is reached
abbrev pub GoesOn : List State → ℕ → Type 0
GoesOn states q = IsTrue (goes_on states (state_at states q).edges)

module _ (states : List State) (offset : ℕ) (x : Letter) (f : ℕ → Truth) where
  -- one edge, over plain tests
  one-taken : (b c : Truth) (l : Boolean) (p : Positive) (n : ℕ)
      → IsTrue (met (if b then Or (Holds l) p else (if c then Or (And (Holds l) (Owed n)) p else p)) x f)
      → (IsTrue (holds x l) × (IsTrue b ⊎ (IsTrue c × IsTrue (f n)))) ⊎ IsTrue (met p x f)
  one-taken true c l p n h = elim (or_cases (holds x l) (met p x f) h) as (λ _. (IsTrue (holds x l) × (IsTrue true ⊎ (IsTrue c × IsTrue (f n)))) ⊎ IsTrue (met p x f)) [
    | inl k ↦ inl (k, inl refl)
    | inr k ↦ inr k
  ]
  one-taken false true l p n h = elim (or_cases (holds x l && f n) (met p x f) h) as (λ _. (IsTrue (holds x l) × (IsTrue false ⊎ (IsTrue true × IsTrue (f n)))) ⊎ IsTrue (met p x f)) [
    | inl k ↦ (let parts = and_parts (holds x l) (f n) k in inl (parts.0, inr (refl, parts.1)))
    | inr k ↦ inr k
  ]
  one-taken false false l p n h = inr h

  take-one : (b c : Truth) (l : Boolean) (p : Positive) (n : ℕ)
      → IsTrue (holds x l) → (IsTrue b ⊎ (IsTrue c × IsTrue (f n)))
      → IsTrue (met (if b then Or (Holds l) p else (if c then Or (And (Holds l) (Owed n)) p else p)) x f)
  take-one true c l p n h k = or_left (holds x l) (met p x f) h
  take-one false c l p n h (inl k) = absurd (both_ways false refl k)
  take-one false true l p n h (inr k) = or_left (holds x l && f n) (met p x f) (and_from (holds x l) (f n) h k.1)
  take-one false false l p n h (inr k) = absurd (both_ways false refl k.0)

  take-other : (b c : Truth) (l : Boolean) (p : Positive) (n : ℕ) → IsTrue (met p x f)
      → IsTrue (met (if b then Or (Holds l) p else (if c then Or (And (Holds l) (Owed n)) p else p)) x f)
  take-other true c l p n h = or_right (holds x l) (met p x f) h
  take-other false true l p n h = or_right (holds x l && f n) (met p x f) h
  take-other false false l p n h = h

  -- some edge is taken exactly where a step leads to a final state, or to one that goes on and is met
  pub taken-steps : (es : List Edge) → IsTrue (met (taken states offset es) x f) → Steps es x (λ t. Ends states t ⊎ (GoesOn states t × IsTrue (f (offset + t))))
  taken-steps [] h = absurd (both_ways false refl h)
  taken-steps (e ∷ es) h =
      elim (one-taken (state_at states e.target).is_final (goes_on states (state_at states e.target).edges) e.label (taken states offset es) (offset + e.target) h)
      as (λ _. Steps (e ∷ es) x (λ t. Ends states t ⊎ (GoesOn states t × IsTrue (f (offset + t))))) [ inl k ↦ inl k | inr k ↦ inr (taken-steps es k) ]

  pub steps-taken : (es : List Edge) → Steps es x (λ t. Ends states t ⊎ (GoesOn states t × IsTrue (f (offset + t)))) → IsTrue (met (taken states offset es) x f)
  steps-taken [] s = absurd s
  steps-taken (e ∷ es) (inl h) =
      take-one (state_at states e.target).is_final (goes_on states (state_at states e.target).edges) e.label (taken states offset es) (offset + e.target) h.0 h.1
  steps-taken (e ∷ es) (inr s) =
      take-other (state_at states e.target).is_final (goes_on states (state_at states e.target).edges) e.label (taken states offset es) (offset + e.target) (steps-taken es s)

  one-going : (c : Truth) (l : Boolean) (p : Positive) (n : ℕ)
      → IsTrue (met (if c then And (Or (Holds (trees.Not l)) (Owed n)) p else p) x f)
      → (IsTrue (holds (dual_letter x) l) → IsTrue c → IsTrue (f n)) × IsTrue (met p x f)
  one-going true l p n h =
      let parts = and_parts (holds x (trees.Not l) || f n) (met p x f) h in (
        λ k _. elim (or_cases (holds x (trees.Not l)) (f n) parts.0) [
          | inl a ↦ absurd (both_ways (holds (dual_letter x) l) (not-true (holds (dual_letter x) l) (sym (holds-not x l) ∙ a)) k)
          | inr a ↦ a
        ],
        parts.1,
      )
  one-going false l p n h = (λ k e. absurd (both_ways false refl e), h)

  go-one : (c : Truth) (l : Boolean) (p : Positive) (n : ℕ)
      → (IsTrue (holds (dual_letter x) l) → IsTrue c → IsTrue (f n)) → IsTrue (met p x f)
      → IsTrue (met (if c then And (Or (Holds (trees.Not l)) (Owed n)) p else p) x f)
  go-one true l p n k h = and_from (holds x (trees.Not l) || f n) (met p x f) (elim (cases_Bool (holds (dual_letter x) l)) [
    | inl a ↦ or_right (holds x (trees.Not l)) (f n) (k a refl)
    | inr a ↦ or_left (holds x (trees.Not l)) (f n) (holds-not x l ∙ not_from_false (holds (dual_letter x) l) a)
  ]) h
  go-one false l p n k h = h

  -- each state that goes on, and that the dual letter leads to, is met
  pub going-tells : (es : List Edge) → IsTrue (met (going states offset es) x f) → (t : ℕ) → StepTo es (dual_letter x) t → GoesOn states t → IsTrue (f (offset + t))
  going-tells [] h t s g = absurd s
  going-tells (e ∷ es) h t (inl s) g =
      let one = one-going (goes_on states (state_at states e.target).edges) e.label (going states offset es) (offset + e.target) h in
      subst (λ (n : ℕ). IsTrue (f (offset + n))) s.1 (one.0 s.0 (subst (λ (n : ℕ). GoesOn states n) (sym s.1) g))
  going-tells (e ∷ es) h t (inr s) g =
      going-tells es (one-going (goes_on states (state_at states e.target).edges) e.label (going states offset es) (offset + e.target) h).1 t s g

  pub tells-going : (es : List Edge) → ((t : ℕ) → StepTo es (dual_letter x) t → GoesOn states t → IsTrue (f (offset + t))) → IsTrue (met (going states offset es) x f)
  tells-going [] k = refl
  tells-going (e ∷ es) k =
      go-one (goes_on states (state_at states e.target).edges) e.label (going states offset es) (offset + e.target)
      (λ h g. k e.target (inl (h, refl)) g) (tells-going es (λ t s g. k t (inr s) g))

  one-quiet : (b : Truth) (l : Boolean) (p : Positive) → IsTrue (met (if b then And (Holds (trees.Not l)) p else p) x f)
      → (IsTrue (holds (dual_letter x) l) → IsTrue b → ⊥) × IsTrue (met p x f)
  one-quiet true l p h =
      let parts = and_parts (holds x (trees.Not l)) (met p x f) h in
      (λ k _. both_ways (holds (dual_letter x) l) (not-true (holds (dual_letter x) l) (sym (holds-not x l) ∙ parts.0)) k, parts.1)
  one-quiet false l p h = (λ k e. both_ways false refl e, h)

  quiet-one : (b : Truth) (l : Boolean) (p : Positive) → (IsTrue (holds (dual_letter x) l) → IsTrue b → ⊥) → IsTrue (met p x f)
      → IsTrue (met (if b then And (Holds (trees.Not l)) p else p) x f)
  quiet-one true l p k h = and_from (holds x (trees.Not l)) (met p x f) (elim (cases_Bool (holds (dual_letter x) l)) [
    | inl a ↦ absurd (k a refl)
    | inr a ↦ holds-not x l ∙ not_from_false (holds (dual_letter x) l) a
  ]) h
  quiet-one false l p k h = h

  -- the dual letter leads to no final state
  pub quiet-tells : (es : List Edge) → IsTrue (met (quiet states es) x f) → (t : ℕ) → StepTo es (dual_letter x) t → Ends states t → ⊥
  quiet-tells [] h t s g = s
  quiet-tells (e ∷ es) h t (inl s) g =
      (one-quiet (state_at states e.target).is_final e.label (quiet states es) h).0 s.0 (subst (λ (n : ℕ). Ends states n) (sym s.1) g)
  quiet-tells (e ∷ es) h t (inr s) g = quiet-tells es (one-quiet (state_at states e.target).is_final e.label (quiet states es) h).1 t s g

  pub tells-quiet : (es : List Edge) → ((t : ℕ) → StepTo es (dual_letter x) t → Ends states t → ⊥) → IsTrue (met (quiet states es) x f)
  tells-quiet [] k = refl
  tells-quiet (e ∷ es) k = quiet-one (state_at states e.target).is_final e.label (quiet states es)
      (λ h g. k e.target (inl (h, refl)) g) (tells-quiet es (λ t s g. k t (inr s) g))

-- the numbers that are owed

module _ (states : List State) (offset n : ℕ) where
  taken-one : (b c : Truth) (l : Boolean) (p : Positive) (t : ℕ) → t < n → OwesWithin offset (offset + n) p
      → OwesWithin offset (offset + n) (if b then Or (Holds l) p else (if c then Or (And (Holds l) (Owed (offset + t))) p else p))
  taken-one true c l p t h w = (tt, w)
  taken-one false true l p t h w = ((tt, (omega arith, omega arith)), w)
  taken-one false false l p t h w = w

  pub taken-within : (es : List Edge) → LeadBelow n es → OwesWithin offset (offset + n) (taken states offset es)
  taken-within [] w = tt
  taken-within (e ∷ es) w = taken-one (state_at states e.target).is_final (goes_on states (state_at states e.target).edges) e.label (taken states offset es) e.target w.0 (taken-within es w.1)

  going-one : (c : Truth) (l : Boolean) (p : Positive) (t : ℕ) → t < n → OwesWithin offset (offset + n) p
      → OwesWithin offset (offset + n) (if c then And (Or (Holds (trees.Not l)) (Owed (offset + t))) p else p)
  going-one true l p t h w = ((tt, (omega arith, omega arith)), w)
  going-one false l p t h w = w

  pub going-within : (es : List Edge) → LeadBelow n es → OwesWithin offset (offset + n) (going states offset es)
  going-within [] w = tt
  going-within (e ∷ es) w = going-one (goes_on states (state_at states e.target).edges) e.label (going states offset es) e.target w.0 (going-within es w.1)

quiet-more : (low high : ℕ) (b : Truth) (l : Boolean) (p : Positive) → OwesWithin low high p → OwesWithin low high (if b then And (Holds l) p else p)
quiet-more low high true l p w = (tt, w)
quiet-more low high false l p w = w

pub quiet-within : (states : List State) (low high : ℕ) (es : List Edge) → OwesWithin low high (quiet states es)
quiet-within states low high [] = tt
quiet-within states low high (e ∷ es) = quiet-more low high (state_at states e.target).is_final (trees.Not e.label) (quiet states es) (quiet-within states low high es)
