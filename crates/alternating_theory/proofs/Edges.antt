-- The states from which an end is reached.
use Rattle.std.proofs.Common.{◌≡◌, ◌⊎◌, inl, inr, refl, sym, ap, ◌∙◌, subst, ℕ, zero, suc, ◌≤◌, ◌<◌, Bool as Truth, false, List, [], ◌∷◌, length, replicate, arith}
use Rattle.std.specs.Prelude.{IsTrue, ◌||◌}
use Rattle.std.proofs.lemmas.Bool.{or_cases, or_left, or_right, both_ways, cases_lt}
use Rattle.psl_tree.specs.declared.letter.Letter.{Letter}
use Rattle.psl_tree.specs.declared.letter.Letter.TheVariants.{Top, Bottom}
use Rattle.psl_tree.specs.SequenceAutomata.{Edge, State, state_at, no_state, Steps, AcceptsFrom, ReachesEnd, Automaton, Accepts, SomeOf}
use Rattle.psl_tree.proofs.SequenceSteps.{Steps-map, Steps-append, Steps-append_left, Steps-append_right}
use Rattle.alternating_theory.specs.Going.{leads, ends_within, is_alive, goes_on, edges_of_all, entry}
use Rattle.alternating_theory.proofs.Settled.{SameBelow, settled}

-- lists of letters that are read over an edge of these first
abbrev pub On : List State → List Edge → List Letter → Type 0
On states es [] = ⊥
On states es (y ∷ ys) = Steps es y (λ q. AcceptsFrom states q ys)

-- each edge leads below the bound
abbrev pub LeadBelow : ℕ → List Edge → Type 0
LeadBelow n [] = Unit {0}
LeadBelow n (e ∷ es) = (e.target < n) × LeadBelow n es

leads-same : (n : ℕ) (f g : ℕ → Truth) → SameBelow n f g → (es : List Edge) → LeadBelow n es → leads g es ≡ leads f es
leads-same n f g s [] w = refl
leads-same n f g s (e ∷ es) w = let a = s e.target w.0 in let b = leads-same n f g s es w.1 in cc

-- a test that holds of the target of an edge that is taken
pub leads-step : (test : ℕ → Truth) (es : List Edge) (x : Letter) (P : ℕ → Type 0) → ((q : ℕ) → P q → IsTrue (test q)) → Steps es x P → IsTrue (leads test es)
leads-step test [] x P f s = absurd s
leads-step test (e ∷ es) x P f (inl h) = or_left (test e.target) (leads test es) (f e.target h.1)
leads-step test (e ∷ es) x P f (inr s) = or_right (test e.target) (leads test es) (leads-step test es x P f s)

-- on Top each edge is taken
pub step-leads : (test : ℕ → Truth) (es : List Edge) → IsTrue (leads test es) → Steps es Top (λ q. IsTrue (test q))
step-leads test [] h = absurd (both_ways false refl h)
step-leads test (e ∷ es) h = elim (or_cases (test e.target) (leads test es) h) as (λ _. Steps (e ∷ es) Top (λ q. IsTrue (test q))) [
  | inl k ↦ inl (refl, k)
  | inr k ↦ inr (step-leads test es k)
]

module _ (states : List State) (below : (q : ℕ) → LeadBelow (length states) (state_at states q).edges) where
  no-state : (ss : List State) (q : ℕ) → length ss ≤ q → state_at ss q ≡ no_state
  no-state [] q h = refl
  no-state (s ∷ ss) zero h = absurd (omega arith)
  no-state (s ∷ ss) (suc q) h = no-state ss q (omega arith)

  ends-grow : (k q : ℕ) → IsTrue (ends_within k states q) → IsTrue (ends_within (suc k) states q)
  ends-grow k q h = or_left (ends_within k states q) (leads (ends_within k states) (state_at states q).edges) h

  ends-follow : (k : ℕ) → SameBelow (length states) (ends_within k states) (ends_within (suc k) states) → SameBelow (length states) (ends_within (suc k) states) (ends_within (suc (suc k)) states)
  ends-follow k s q h =
      let a = s q h in
      let b = leads-same (length states) (ends_within k states) (ends_within (suc k) states) s (state_at states q).edges (below q) in
      ap (λ (t : Truth). t || leads (ends_within (suc k) states) (state_at states q).edges) a
      ∙ ap (λ (t : Truth). ends_within k states q || t) b

  ends-settled : SameBelow (length states) (ends_within (length states) states) (ends_within (suc (length states)) states)
  ends-settled = settled (length states) (λ k q. ends_within k states q) ends-grow ends-follow

  -- nothing is final past the states
  ends-none : (k q : ℕ) → length states ≤ q → ends_within k states q ≡ false
  ends-none zero q h = ap (λ (s : State). s.is_final) (no-state states q h)
  ends-none (suc k) q h = ap (λ (t : Truth). t || leads (ends_within k states) (state_at states q).edges) (ends-none k q h)
      ∙ ap (λ (s : State). leads (ends_within k states) s.edges) (no-state states q h)

  pub alive-closed : (q : ℕ) → IsTrue (goes_on states (state_at states q).edges) → IsTrue (is_alive states q)
  alive-closed q h = elim (cases_lt q (length states)) [
    | inl l ↦ sym (ends-settled q l) ∙ or_right (is_alive states q) (goes_on states (state_at states q).edges) h
    | inr l ↦ absurd (both_ways false refl (ap (λ (s : State). leads (is_alive states) s.edges) (sym (no-state states q l)) ∙ h))
  ]

  final-within : (k q : ℕ) → IsTrue (state_at states q).is_final → IsTrue (ends_within k states q)
  final-within zero q h = h
  final-within (suc k) q h = or_left (ends_within k states q) (leads (ends_within k states) (state_at states q).edges) (final-within k q h)

  pub alive-final : (q : ℕ) → IsTrue (state_at states q).is_final → IsTrue (is_alive states q)
  alive-final q h = final-within (length states) q h

  -- from where letters are accepted an end is reached
  pub accepts-alive : (ys : List Letter) (q : ℕ) → AcceptsFrom states q ys → IsTrue (is_alive states q)
  accepts-alive [] q h = alive-final q h
  accepts-alive (y ∷ ys) q h = alive-closed q (leads-step (is_alive states) (state_at states q).edges y (λ r. AcceptsFrom states r ys) (λ r k. accepts-alive ys r k) h)

  pub on-goes : (es : List Edge) (ys : List Letter) → On states es ys → IsTrue (goes_on states es)
  on-goes es [] h = absurd h
  on-goes es (y ∷ ys) h = leads-step (is_alive states) es y (λ r. AcceptsFrom states r ys) (λ r k. accepts-alive ys r k) h

  -- letters Top lead to an end from where one is reached
  ends-reach : (k q : ℕ) → IsTrue (ends_within k states q) → ReachesEnd states q
  ends-reach zero q h = (0, h)
  ends-reach (suc k) q h = elim (or_cases (ends_within k states q) (leads (ends_within k states) (state_at states q).edges) h) as (λ _. ReachesEnd states q) [
    | inl a ↦ ends-reach k q a
    | inr a ↦ gathered (state_at states q).edges (Steps-map (state_at states q).edges Top (λ r. IsTrue (ends_within k states r)) (λ r. ReachesEnd states r)
        (λ r b. ends-reach k r b) (step-leads (ends_within k states) (state_at states q).edges a)) q refl
  ]
    where
      Some-count : List Edge → Type 0
      Some-count es = (count : ℕ) × Steps es Top (λ r. AcceptsFrom states r (replicate count Top))

      count-of : (es : List Edge) → Steps es Top (λ r. ReachesEnd states r) → (count : ℕ) × Steps es Top (λ r. AcceptsFrom states r (replicate count Top))
      count-of [] s = absurd s
      count-of (e ∷ es) (inl a) = (a.1.0, inl (refl, a.1.1))
      count-of (e ∷ es) (inr a) = let c = count-of es a in (c.0, inr c.1)

      gathered : (es : List Edge) → Steps es Top (λ r. ReachesEnd states r) → (q : ℕ) → (state_at states q).edges ≡ es → ReachesEnd states q
      gathered es s q e = let c = count-of es s in (suc c.0, subst (λ (l : List Edge). Steps l Top (λ r. AcceptsFrom states r (replicate c.0 Top))) (sym e) c.1)

  pub alive-reaches : (q : ℕ) → IsTrue (is_alive states q) → ReachesEnd states q
  alive-reaches q h = ends-reach (length states) q h

  pub reaches-alive : (q : ℕ) → ReachesEnd states q → IsTrue (is_alive states q)
  reaches-alive q h = accepts-alive (replicate h.0 Top) q h.1

  pub goes-tops : (es : List Edge) → IsTrue (goes_on states es) → (count : ℕ) × On states es (Top ∷ replicate count Top)
  goes-tops es h = gather es (Steps-map es Top (λ r. IsTrue (is_alive states r)) (λ r. ReachesEnd states r) (λ r b. alive-reaches r b) (step-leads (is_alive states) es h))
    where
      gather : (fs : List Edge) → Steps fs Top (λ r. ReachesEnd states r) → (count : ℕ) × Steps fs Top (λ r. AcceptsFrom states r (replicate count Top))
      gather [] s = absurd s
      gather (e ∷ fs) (inl a) = (a.1.0, inl (refl, a.1.1))
      gather (e ∷ fs) (inr a) = let c = gather fs a in (c.0, inr c.1)

-- what an automaton accepts, but the empty list, is read over its entry
pub entry-accepts : (automaton : Automaton) (y : Letter) (ys : List Letter) → On automaton.states (entry automaton) (y ∷ ys) → Accepts automaton (y ∷ ys)
entry-accepts automaton y ys h = there automaton.initial h
  where
    there : (ns : List ℕ) → Steps (edges_of_all automaton.states ns) y (λ q. AcceptsFrom automaton.states q ys) → SomeOf ns (λ q. AcceptsFrom automaton.states q (y ∷ ys))
    there [] s = absurd s
    there (n ∷ ns) s = elim (Steps-append (state_at automaton.states n).edges (edges_of_all automaton.states ns) y (λ q. AcceptsFrom automaton.states q ys) s)
        as (λ _. SomeOf (n ∷ ns) (λ q. AcceptsFrom automaton.states q (y ∷ ys))) [ inl k ↦ inl k | inr k ↦ inr (there ns k) ]

pub accepts-entry : (automaton : Automaton) (y : Letter) (ys : List Letter) → Accepts automaton (y ∷ ys) → On automaton.states (entry automaton) (y ∷ ys)
accepts-entry automaton y ys h = back automaton.initial h
  where
    back : (ns : List ℕ) → SomeOf ns (λ q. AcceptsFrom automaton.states q (y ∷ ys)) → Steps (edges_of_all automaton.states ns) y (λ q. AcceptsFrom automaton.states q ys)
    back [] s = absurd s
    back (n ∷ ns) (inl k) = Steps-append_left (state_at automaton.states n).edges (edges_of_all automaton.states ns) y (λ q. AcceptsFrom automaton.states q ys) k
    back (n ∷ ns) (inr k) = Steps-append_right (state_at automaton.states n).edges (edges_of_all automaton.states ns) y (λ q. AcceptsFrom automaton.states q ys) (back ns k)

pub leads-more : (f g : ℕ → Truth) → ((q : ℕ) → IsTrue (f q) → IsTrue (g q)) → (es : List Edge) → IsTrue (leads f es) → IsTrue (leads g es)
leads-more f g k [] h = h
leads-more f g k (e ∷ es) h = elim (or_cases (f e.target) (leads f es) h) [
  | inl a ↦ or_left (g e.target) (leads g es) (k e.target a)
  | inr a ↦ or_right (g e.target) (leads g es) (leads-more f g k es a)
]

module _ (states : List State) (below : (q : ℕ) → LeadBelow (length states) (state_at states q).edges) where
  Splits : ℕ → Type 0
  Splits q = IsTrue (state_at states q).is_final ⊎ IsTrue (goes_on states (state_at states q).edges)

  within-split : (k q : ℕ) → IsTrue (ends_within k states q) → IsTrue (state_at states q).is_final ⊎ IsTrue (goes_on states (state_at states q).edges)
  within-split zero q h = inl h
  within-split (suc k) q h = elim (or_cases (ends_within k states q) (leads (ends_within k states) (state_at states q).edges) h)
      as (λ _. IsTrue (state_at states q).is_final ⊎ IsTrue (goes_on states (state_at states q).edges)) [
        | inl a ↦ within-split k q a
        | inr a ↦ inr (leads-more (ends_within k states) (is_alive states) (λ r b. reaches-alive states below r (ends-reach states below k r b)) (state_at states q).edges a)
      ]

  -- from where an end is reached, there it is or some edge leads on
  pub alive-split : (q : ℕ) → IsTrue (is_alive states q) → IsTrue (state_at states q).is_final ⊎ IsTrue (goes_on states (state_at states q).edges)
  alive-split q h = within-split (length states) q h

pub step-below : (n : ℕ) (es : List Edge) (x : Letter) (P : ℕ → Type 0) → LeadBelow n es → Steps es x P → Steps es x (λ q. (q < n) × P q)
step-below n [] x P w s = s
step-below n (e ∷ es) x P w (inl h) = inl (h.0, (w.0, h.1))
step-below n (e ∷ es) x P w (inr s) = inr (step-below n es x P w.1 s)

-- on Bottom no edge is taken
pub step-bottom : (es : List Edge) (P : ℕ → Type 0) → Steps es Bottom P → ⊥
step-bottom [] P s = s
step-bottom (e ∷ es) P (inl h) = both_ways false refl h.0
step-bottom (e ∷ es) P (inr s) = step-bottom es P s
