-- Steps along edges by their numbers, and the cells before a cell.
use Rattle.std.proofs.Common.{◌≡◌, inl, inr, refl, sym, ap, ◌∙◌, subst, ℕ, zero, suc, ◌<◌, Bool as Truth, true, false, List, [], ◌∷◌, length, map, arith}
use Rattle.std.specs.Prelude.{IsTrue, ◌&&◌, if◌then◌else◌, slice_index}
use Rattle.std.specs.List.{list_any}
use Rattle.std.proofs.lemmas.Bool.{both_ways, and_parts, or_cases, or_left, or_right}
use Rattle.std.proofs.lemmas.List.{get_or-map, length-map}
use Rattle.psl_tree.specs.Holds.{holds}
use Rattle.psl_tree.specs.Trees.{Const}
use Rattle.psl_tree.specs.declared.letter.Letter.{Letter}
use Rattle.psl_tree.specs.SequenceAutomata.{Edge, State, Automaton, state_at, IsSound}
use Rattle.sere_nfa.proofs.Reach.{Member}
use Rattle.psl_tree.proofs.SequenceSteps.{StepTo}
use Rattle.lasso_judge.specs.Arrows.{edge_at, arrow_at, label_of, arrows_below, places_from}
use Rattle.lasso_judge.specs.Cells.{cell_of, cells_at, cells_back}
use Rattle.lasso_judge.specs.declared.chart.Arrow.{Arrow}
use Rattle.lasso_judge.proofs.Drawn.{arrows-real, arrows-whole, member-there, member-left, member-right, one-there, one-back, places-there, places-back}

pub both-true : (a b : Truth) → IsTrue a → IsTrue b → IsTrue (a && b)
both-true true b h k = k
both-true false b h k = absurd (both_ways false refl h)

-- a step along the edge of a number
pub edge-step : (es : List Edge) (x : Letter) (k : ℕ) → k < length es → IsTrue (holds x (edge_at es k).label) → StepTo es x (edge_at es k).target
edge-step [] x k l h = absurd (omega arith)
edge-step (e ∷ es) x zero l h = inl (h, refl)
edge-step (e ∷ es) x (suc k) l h = inr (edge-step es x k (omega arith) h)

-- the edge of a step
pub record IsEdge (es : List Edge) (x : Letter) (t k : ℕ) : Type 0 where
  pub below : k < length es
  pub held : IsTrue (holds x (edge_at es k).label)
  pub leads : (edge_at es k).target ≡ t

pub step-edge : (es : List Edge) (x : Letter) (t : ℕ) → StepTo es x t → (k : ℕ) × IsEdge es x t k
step-edge [] x t s = absurd s
step-edge (e ∷ es) x t (inl h) = (0, record { below = omega arith; held = h.0; leads = h.1 })
step-edge (e ∷ es) x t (inr s) = let r = step-edge es x t s in (suc r.0, record { below = omega (arith, r.1.below); held = r.1.held; leads = r.1.leads })

-- some edge that passes a test of its target
pub any-step : (es : List Edge) (x : Letter) (test : ℕ → Truth) → IsTrue (list_any (λ (e : Edge). holds x e.label && test e.target) es) → (t : ℕ) × StepTo es x t × IsTrue (test t)
any-step [] x test h = absurd (both_ways false refl h)
any-step (e ∷ es) x test h = elim (or_cases (holds x e.label && test e.target) (list_any (λ (f : Edge). holds x f.label && test f.target) es) h) as (λ _. (t : ℕ) × StepTo (e ∷ es) x t × IsTrue (test t)) [
  | inl k ↦ (let parts = and_parts (holds x e.label) (test e.target) k in (e.target, inl (parts.0, refl), parts.1))
  | inr k ↦ (let r = any-step es x test k in (r.0, inr r.1, r.2))
]

pub step-any : (es : List Edge) (x : Letter) (test : ℕ → Truth) (t : ℕ) → StepTo es x t → IsTrue (test t) → IsTrue (list_any (λ (e : Edge). holds x e.label && test e.target) es)
step-any [] x test t s h = absurd s
step-any (e ∷ es) x test t (inl s) h = or_left (holds x e.label && test e.target) (list_any (λ (f : Edge). holds x f.label && test f.target) es)
    (both-true (holds x e.label) (test e.target) s.0 (subst (λ q. IsTrue (test q)) (sym s.1) h))
step-any (e ∷ es) x test t (inr s) h = or_right (holds x e.label && test e.target) (list_any (λ (f : Edge). holds x f.label && test f.target) es) (step-any es x test t s h)

-- edges leave states alone
pub step-below : (states : List State) (q : ℕ) (x : Letter) (t : ℕ) → StepTo (state_at states q).edges x t → q < length states
step-below [] q x t s = absurd s
step-below (s ∷ states) zero x t h = omega arith
step-below (s ∷ states) (suc q) x t h = let b = step-below states q x t h in omega (arith, b)

-- and lead to states
pub step-target : (a : Automaton) → IsSound a → (q : ℕ) (x : Letter) (t : ℕ) → StepTo (state_at a.states q).edges x t → t < length a.states
step-target a sound q x t s =
    let k = step-edge (state_at a.states q).edges x t s in
    let within = sound.targets_below q k.0 (record { label = Const false; target = 0 }) k.1.below in
    omega (arith, within.1, k.1.leads)

module _ (states : List State) (letter : ℕ → Letter) (arrows : List Arrow) (is : arrows ≡ arrows_below states (length states)) where
  abbrev width : ℕ
  width = length states

  abbrev To : ℕ → ℕ → ℕ → Type 0
  To p q t = StepTo (state_at states q).edges (letter p) t

  at-there : (y p : ℕ) (ns : List ℕ) → Member y (cells_at states letter arrows p ns)
      → (i : ℕ) × Member i ns × IsTrue (holds (letter p) (label_of states (arrow_at arrows i))) × (y ≡ cell_of (length states) p (arrow_at arrows i).state)
  at-there y p [] h = absurd h
  at-there y p (n ∷ ns) h = elim (member-there y (if holds (letter p) (label_of states (arrow_at arrows n)) then cell_of (length states) p (arrow_at arrows n).state ∷ [] else []) (cells_at states letter arrows p ns) h)
      as (λ _. (i : ℕ) × Member i (n ∷ ns) × IsTrue (holds (letter p) (label_of states (arrow_at arrows i))) × (y ≡ cell_of (length states) p (arrow_at arrows i).state)) [
        | inl k ↦ (let m = one-there (holds (letter p) (label_of states (arrow_at arrows n))) y (cell_of (length states) p (arrow_at arrows n).state) k in (n, inl refl, m.0, m.1))
        | inr k ↦ (let m = at-there y p ns k in (m.0, inr m.1, m.2, m.3))
      ]

  at-back : (y p : ℕ) (ns : List ℕ) (i : ℕ) → Member i ns → IsTrue (holds (letter p) (label_of states (arrow_at arrows i))) → y ≡ cell_of (length states) p (arrow_at arrows i).state
      → Member y (cells_at states letter arrows p ns)
  at-back y p [] i m h e = absurd m
  at-back y p (n ∷ ns) i (inl s) h e = member-left y (if holds (letter p) (label_of states (arrow_at arrows n)) then cell_of (length states) p (arrow_at arrows n).state ∷ [] else []) (cells_at states letter arrows p ns)
      (one-back (holds (letter p) (label_of states (arrow_at arrows n))) y (cell_of (length states) p (arrow_at arrows n).state)
      (subst (λ j. IsTrue (holds (letter p) (label_of states (arrow_at arrows j)))) s h) (e ∙ ap (λ j. cell_of (length states) p (arrow_at arrows j).state) s))
  at-back y p (n ∷ ns) i (inr m) h e = member-right y (if holds (letter p) (label_of states (arrow_at arrows n)) then cell_of (length states) p (arrow_at arrows n).state ∷ [] else []) (cells_at states letter arrows p ns)
      (at-back y p ns i m h e)

  back-there : (y : ℕ) (ps ns : List ℕ) → Member y (cells_back states letter arrows ps ns) → (p : ℕ) × Member p ps × Member y (cells_at states letter arrows p ns)
  back-there y [] ns h = absurd h
  back-there y (p ∷ ps) ns h = elim (member-there y (cells_at states letter arrows p ns) (cells_back states letter arrows ps ns) h)
      as (λ _. (o : ℕ) × Member o (p ∷ ps) × Member y (cells_at states letter arrows o ns)) [
        | inl k ↦ (p, inl refl, k)
        | inr k ↦ (let m = back-there y ps ns k in (m.0, inr m.1, m.2))
      ]

  back-back : (y : ℕ) (ps ns : List ℕ) (p : ℕ) → Member p ps → Member y (cells_at states letter arrows p ns) → Member y (cells_back states letter arrows ps ns)
  back-back y [] ns p m h = absurd m
  back-back y (o ∷ ps) ns p (inl s) h = member-left y (cells_at states letter arrows o ns) (cells_back states letter arrows ps ns) (subst (λ j. Member y (cells_at states letter arrows j ns)) s h)
  back-back y (o ∷ ps) ns p (inr m) h = member-right y (cells_at states letter arrows o ns) (cells_back states letter arrows ps ns) (back-back y ps ns p m h)

  -- the cells before the cell of a place and a state
  abbrev pub before_cell : List ℕ → ℕ → ℕ → List ℕ
  before_cell next place state = cells_back states letter arrows (places_from 0 place next) (places_from 0 state (map (λ (a : Arrow). a.target) arrows))

  pub record IsBefore (next : List ℕ) (place state y : ℕ) (p q : ℕ) : Type 0 where
    pub cell : y ≡ cell_of (length states) p q
    pub place_below : p < length next
    pub state_below : q < length states
    pub leads : slice_index next p ≡ place
    pub step : To p q state

  pub before-there : (next : List ℕ) (place state y : ℕ) → Member y (before_cell next place state) → (p q : ℕ) × IsBefore next place state y p q
  before-there next place state y h =
      let b = back-there y (places_from 0 place next) (places_from 0 state (map (λ (a : Arrow). a.target) arrows)) h in
      let a = at-there y b.0 (places_from 0 state (map (λ (a : Arrow). a.target) arrows)) b.2 in
      let p = places-there b.0 0 place next b.1 in
      let i = places-there a.0 0 state (map (λ (a : Arrow). a.target) arrows) a.1 in
      let same : a.0 ≡ i.0 = omega (arith, i.1) in
      let here : b.0 ≡ p.0 = omega (arith, p.1) in
      let m : a.0 < length arrows = omega (arith, i.2, same, length-map arrows (λ (a : Arrow). a.target)) in
      let r = arrows-real states arrows is a.0 m in
      let target : (arrow_at arrows a.0).target ≡ state =
      sym (get_or-map (λ (a : Arrow). a.target) arrows a.0 (record { state = 0; edge = 0; target = 0 }) 0 m) ∙ (ap (λ j. slice_index (map (λ (a : Arrow). a.target) arrows) j) same ∙ i.3) in (
        b.0,
        (arrow_at arrows a.0).state,
        record {
          cell = a.3;
          place_below = omega (arith, p.2, here);
          state_below = r.state_below;
          leads = ap (λ j. slice_index next j) here ∙ p.3;
          step = subst (λ t. To b.0 (arrow_at arrows a.0).state t) (sym r.leads ∙ target)
              (edge-step (state_at states (arrow_at arrows a.0).state).edges (letter b.0) (arrow_at arrows a.0).edge r.edge_below a.2);
        },
      )

  pub before-back : (next : List ℕ) (place state p q : ℕ) → p < length next → slice_index next p ≡ place → To p q state → Member (cell_of (length states) p q) (before_cell next place state)
  before-back next place state p q l e s =
      let k = step-edge (state_at states q).edges (letter p) state s in
      let i = arrows-whole states arrows is q k.0 (step-below states q (letter p) state s) k.1.below in
      let r = arrows-real states arrows is i.0 i.1.below in
      let edge : edge_at (state_at states (arrow_at arrows i.0).state).edges (arrow_at arrows i.0).edge ≡ edge_at (state_at states q).edges k.0 =
      ap (λ n. edge_at (state_at states n).edges (arrow_at arrows i.0).edge) i.1.state_is ∙ ap (λ n. edge_at (state_at states q).edges n) i.1.edge_is in
      let target : slice_index (map (λ (a : Arrow). a.target) arrows) i.0 ≡ state =
      get_or-map (λ (a : Arrow). a.target) arrows i.0 (record { state = 0; edge = 0; target = 0 }) 0 i.1.below ∙ (r.leads ∙ (ap (λ (f : Edge). f.target) edge ∙ k.1.leads)) in
      back-back (cell_of (length states) p q) (places_from 0 place next) (places_from 0 state (map (λ (a : Arrow). a.target) arrows)) p
      (places-back p 0 place next p (omega arith) l e)
      (at-back (cell_of (length states) p q) p (places_from 0 state (map (λ (a : Arrow). a.target) arrows)) i.0
      (places-back i.0 0 state (map (λ (a : Arrow). a.target) arrows) i.0 (omega arith) (omega (arith, i.1.below, length-map arrows (λ (a : Arrow). a.target))) target)
      (subst (λ (f : Edge). IsTrue (holds (letter p) f.label)) (sym edge) k.1.held)
      (ap (λ n. cell_of (length states) p n) (sym i.1.state_is)))
