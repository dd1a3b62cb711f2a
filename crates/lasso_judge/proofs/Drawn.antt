-- The arrows of an automaton are its edges, and which places a list of places has.
use Rattle.std.proofs.Common.{◌≡◌, ◌⊎◌, inl, inr, refl, sym, ap, ◌∙◌, subst, ℕ, zero, suc, ◌+◌, ◌-◌, ◌*◌, ◌/◌, ◌%◌, ◌≤◌, ◌<◌, Bool as Truth, true, false, List, [], ◌∷◌, ◌++◌, length, map, get_or, arith}
use Rattle.std.specs.Prelude.{IsTrue, ◌==◌, if◌then◌else◌, slice_index}
use Rattle.std.proofs.lemmas.Bool.{cases_lt, both_ways, eq-eqb}
use Rattle.std.proofs.lemmas.Bool.Decides.{nat_tests}
use Rattle.std.proofs.lemmas.List.{length-append, get_or_append_left, get_or-append_right, get_or-map, get_or_default, length-map}
use Rattle.psl_tree.specs.Trees.{Const, Sequence}
use Rattle.psl_tree.specs.SequenceAutomata.{Edge, State, state_at, IsSound}
use Rattle.std.proofs.lemmas.Nat.{div_below, mod_below}
use Rattle.psl_tree.specs.SequenceConstruction.{nfa_of, part_of, Draft, shown as shown-draft}
use Rattle.sere_nfa.proofs.Reach.{Member}
use Rattle.lasso_judge.specs.Arrows.{edge_at, arrow_at, arrows_in, arrows_below, places_from, IsArrow}
use Rattle.lasso_judge.specs.declared.chart.Arrow.{Arrow}

length-arrows_in : (state number : ℕ) (es : List Edge) → length (arrows_in state number es) ≡ length es
length-arrows_in state number [] = refl
length-arrows_in state number (e ∷ es) = ap (λ n. suc n) (length-arrows_in state (suc number) es)

-- an arrow of a state's edges
pub record IsOf (state number : ℕ) (es : List Edge) (i : ℕ) (a : Arrow) : Type 0 where
  pub state_is : a.state ≡ state
  pub edge_is : a.edge ≡ number + i
  pub target_is : a.target ≡ (edge_at es i).target

arrow-in : (state number : ℕ) (es : List Edge) (i : ℕ) → i < length es → IsOf state number es i (arrow_at (arrows_in state number es) i)
arrow-in state number [] i l = absurd (omega arith)
arrow-in state number (e ∷ es) zero l = record { state_is = refl; edge_is = omega arith; target_is = refl }
arrow-in state number (e ∷ es) (suc i) l =
    let r = arrow-in state (suc number) es i (omega arith) in
    record { state_is = r.state_is; edge_is = omega (arith, r.edge_is); target_is = r.target_is }

below-real : (states : List State) (n : ℕ) → n ≤ length states → (i : ℕ) → i < length (arrows_below states n) → IsArrow states (arrow_at (arrows_below states n) i)
below-real states zero h i l = absurd (omega arith)
below-real states (suc n) h i l = elim (cases_lt i (length (arrows_below states n))) as (λ _. IsArrow states (arrow_at (arrows_below states (suc n)) i)) [
  | inl k ↦ subst (λ (a : Arrow). IsArrow states a) (sym (get_or_append_left (arrows_below states n) (arrows_in n 0 (state_at states n).edges) (record { state = 0; edge = 0; target = 0 }) i k))
      (below-real states n (omega arith) i k)
  | inr k ↦ (let j : ℕ = i - length (arrows_below states n) in
      let m : j < length (state_at states n).edges = omega (arith, l, k, length-append (arrows_below states n) (arrows_in n 0 (state_at states n).edges), length-arrows_in n 0 (state_at states n).edges) in
      let r = arrow-in n 0 (state_at states n).edges j m in
      subst (λ (a : Arrow). IsArrow states a)
      (sym (get_or-append_right (arrows_below states n) (arrows_in n 0 (state_at states n).edges) (length (arrows_below states n)) i (record { state = 0; edge = 0; target = 0 }) refl k))
      (of states n j (arrow_at (arrows_in n 0 (state_at states n).edges) j) (omega arith) m r))
]
  where
    of : (states : List State) (n j : ℕ) (a : Arrow) → n < length states → j < length (state_at states n).edges → IsOf n 0 (state_at states n).edges j a → IsArrow states a
    of states n j a h m r =
        let e : j ≡ a.edge = omega (arith, r.edge_is) in
        record {
          state_below = omega (arith, r.state_is);
          edge_below = subst (λ q. a.edge < length (state_at states q).edges) (sym r.state_is) (omega (arith, r.edge_is));
          leads = subst (λ q. a.target ≡ (edge_at (state_at states q).edges a.edge).target) (sym r.state_is)
              (subst (λ k. a.target ≡ (edge_at (state_at states n).edges k).target) e r.target_is);
        }

-- the edge of this number of this state is among the arrows
pub record IsFor (arrows : List Arrow) (state edge : ℕ) (i : ℕ) : Type 0 where
  pub below : i < length arrows
  pub state_is : (arrow_at arrows i).state ≡ state
  pub edge_is : (arrow_at arrows i).edge ≡ edge

below-whole : (states : List State) (n q k : ℕ) → q < n → k < length (state_at states q).edges → (i : ℕ) × IsFor (arrows_below states n) q k i
below-whole states zero q k l h = absurd (omega arith)
below-whole states (suc n) q k l h = elim (cases_lt q n) as (λ _. (i : ℕ) × IsFor (arrows_below states (suc n)) q k i) [
  | inl m ↦ (let r = below-whole states n q k m h in (
    r.0,
    record {
      below = omega (arith, r.1.below, length-append (arrows_below states n) (arrows_in n 0 (state_at states n).edges));
      state_is = ap (λ (a : Arrow). a.state) (get_or_append_left (arrows_below states n) (arrows_in n 0 (state_at states n).edges) (record { state = 0; edge = 0; target = 0 }) r.0 r.1.below) ∙ r.1.state_is;
      edge_is = ap (λ (a : Arrow). a.edge) (get_or_append_left (arrows_below states n) (arrows_in n 0 (state_at states n).edges) (record { state = 0; edge = 0; target = 0 }) r.0 r.1.below) ∙ r.1.edge_is;
    },
  ))
  | inr m ↦ (let same : q ≡ n = omega arith in
      let long : k < length (state_at states n).edges = subst (λ s. k < length (state_at states s).edges) same h in
      let r = arrow-in n 0 (state_at states n).edges k long in
      let i : ℕ = length (arrows_below states n) + k in
      let back : i - length (arrows_below states n) ≡ k = omega arith in
      let at : arrow_at (arrows_below states (suc n)) i ≡ arrow_at (arrows_in n 0 (state_at states n).edges) k =
      get_or-append_right (arrows_below states n) (arrows_in n 0 (state_at states n).edges) (length (arrows_below states n)) i (record { state = 0; edge = 0; target = 0 }) refl (omega arith)
      ∙ ap (λ j. arrow_at (arrows_in n 0 (state_at states n).edges) j) back in (
        i,
        record {
          below = omega (arith, length-append (arrows_below states n) (arrows_in n 0 (state_at states n).edges), length-arrows_in n 0 (state_at states n).edges, long);
          state_is = ap (λ (a : Arrow). a.state) at ∙ (r.state_is ∙ sym same);
          edge_is = ap (λ (a : Arrow). a.edge) at ∙ omega (arith, r.edge_is);
        },
      ))
]

pub arrows-real : (states : List State) (arrows : List Arrow) → arrows ≡ arrows_below states (length states) → (i : ℕ) → i < length arrows → IsArrow states (arrow_at arrows i)
arrows-real states arrows e i l = subst (λ (rs : List Arrow). IsArrow states (arrow_at rs i)) (sym e)
    (below-real states (length states) (omega arith) i (subst (λ (rs : List Arrow). i < length rs) e l))

pub arrows-whole : (states : List State) (arrows : List Arrow) → arrows ≡ arrows_below states (length states)
    → (q k : ℕ) → q < length states → k < length (state_at states q).edges → (i : ℕ) × IsFor arrows q k i
arrows-whole states arrows e q k l h = subst (λ (rs : List Arrow). (i : ℕ) × IsFor rs q k i) (sym e) (below-whole states (length states) q k l h)

-- each arrow leads to a state
pub target-below : (initial : List ℕ) (states : List State) (arrows : List Arrow) → IsSound (record { initial = initial; states = states }) → ((i : ℕ) → i < length arrows → IsArrow states (arrow_at arrows i))
    → (i : ℕ) → i < length arrows → (arrow_at arrows i).target < length states
target-below initial states arrows sound real i l =
    let r = real i l in
    let a = arrow_at arrows i in
    let within = sound.targets_below a.state a.edge (record { label = Const false; target = 0 }) r.edge_below in
    omega (arith, within.1, r.leads)

pub targets-below : (initial : List ℕ) (states : List State) (arrows : List Arrow) (targets : List ℕ) → IsSound (record { initial = initial; states = states }) → arrows ≡ arrows_below states (length states)
    → targets ≡ map (λ (a : Arrow). a.target) arrows → (p : ℕ) → p < length targets → slice_index targets p < length states
targets-below initial states arrows targets sound e f p l = subst (λ (ts : List ℕ). slice_index ts p < length states) (sym f)
    (let m : p < length arrows = omega (arith, ap (λ (ts : List ℕ). length ts) f, length-map arrows (λ (a : Arrow). a.target)) in
    let same : slice_index (map (λ (a : Arrow). a.target) arrows) p ≡ (arrow_at arrows p).target = get_or-map (λ (a : Arrow). a.target) arrows p (record { state = 0; edge = 0; target = 0 }) 0 m in
    let below = target-below initial states arrows sound (arrows-real states arrows e) p m in omega (arith, same, below))

-- an automaton has a state
some-last : (xs : List State) (x : State) → 0 < length (xs ++ x ∷ [])
some-last xs x = omega (arith, length-append xs (x ∷ []))

pub some-state : (r : Sequence) → 0 < length (nfa_of r).states
some-state r = some-last (map (λ (s : Draft). shown-draft s) (part_of 0 r).states) (shown-draft (part_of 0 r).start)

-- a list of places has the places at which the number stands

same_number : (a b : ℕ) → IsTrue (a == b) → a ≡ b
same_number a b h = grind (arith, nat_tests)

pub member-there : (q : ℕ) (ms ns : List ℕ) → Member q (ms ++ ns) → Member q ms ⊎ Member q ns
member-there q [] ns h = inr h
member-there q (m ∷ ms) ns (inl e) = inl (inl e)
member-there q (m ∷ ms) ns (inr h) = elim (member-there q ms ns h) as (λ _. Member q (m ∷ ms) ⊎ Member q ns) [ inl k ↦ inl (inr k) | inr k ↦ inr k ]

pub member-left : (q : ℕ) (ms ns : List ℕ) → Member q ms → Member q (ms ++ ns)
member-left q [] ns h = absurd h
member-left q (m ∷ ms) ns (inl e) = inl e
member-left q (m ∷ ms) ns (inr h) = inr (member-left q ms ns h)

pub member-right : (q : ℕ) (ms ns : List ℕ) → Member q ns → Member q (ms ++ ns)
member-right q [] ns h = h
member-right q (m ∷ ms) ns h = inr (member-right q ms ns h)

-- a member of a list that has one number where a test holds, and none where it does not
pub one-there : (b : Truth) (q n : ℕ) → Member q (if b then n ∷ [] else []) → IsTrue b × (q ≡ n)
one-there true q n (inl e) = (refl, e)
one-there true q n (inr z) = absurd z
one-there false q n h = absurd h

pub one-back : (b : Truth) (q n : ℕ) → IsTrue b → q ≡ n → Member q (if b then n ∷ [] else [])
one-back true q n h e = inl e
one-back false q n h e = absurd (both_ways false refl h)

pub places-there : (q s n : ℕ) (xs : List ℕ) → Member q (places_from s n xs) → (j : ℕ) × (q ≡ s + j) × (j < length xs) × (slice_index xs j ≡ n)
places-there q s n [] h = absurd h
places-there q s n (x ∷ xs) h = elim (member-there q (if x == n then s ∷ [] else []) (places_from (suc s) n xs) h)
    as (λ _. (j : ℕ) × (q ≡ s + j) × (j < length (x ∷ xs)) × (slice_index (x ∷ xs) j ≡ n)) [
      | inl k ↦ (let m = one-there (x == n) q s k in (0, omega (arith, m.1), omega arith, same_number x n m.0))
      | inr k ↦ (let m = places-there q (suc s) n xs k in (suc m.0, omega (arith, m.1), omega (arith, m.2), m.3))
    ]

pub places-back : (q s n : ℕ) (xs : List ℕ) (j : ℕ) → q ≡ s + j → j < length xs → slice_index xs j ≡ n → Member q (places_from s n xs)
places-back q s n [] j e l h = absurd (omega arith)
places-back q s n (x ∷ xs) zero e l h = member-left q (if x == n then s ∷ [] else []) (places_from (suc s) n xs) (one-back (x == n) q s (eq-eqb x n h) (omega arith))
places-back q s n (x ∷ xs) (suc j) e l h = member-right q (if x == n then s ∷ [] else []) (places_from (suc s) n xs) (places-back q (suc s) n xs j (omega arith) (omega arith) h)

-- what an indexed list of a list of lists is
pub gathered : (lists : List (List ℕ)) (n t : ℕ) (item shown sought : List ℕ) → length lists ≡ n → t < n → shown ≡ item → item ≡ get_or lists t item
    → get_or lists t [] ≡ sought → shown ≡ sought
gathered lists n t item shown sought len below e f is =
    let within : t < length lists = omega arith in
    e ∙ (f ∙ (get_or_default lists t item [] within ∙ is))

pub each-below : (m : ℕ) (ns : List ℕ) → ((y : ℕ) → Member y ns → y < m) → (k d : ℕ) → k < length ns → get_or ns k d < m
each-below m [] h k d l = absurd (omega arith)
each-below m (n ∷ ns) h zero d l = h n (inl refl)
each-below m (n ∷ ns) h (suc k) d l = each-below m ns (λ y s. h y (inr s)) k d (omega arith)

pub places-below : (n : ℕ) (xs : List ℕ) (k d : ℕ) → k < length (places_from 0 n xs) → get_or (places_from 0 n xs) k d < length xs
places-below n xs k d l = each-below (length xs) (places_from 0 n xs) (λ y s. let m = places-there y 0 n xs s in omega (arith, m.1, m.2)) k d l

-- an arrow that is indexed
pub taken : (states : List State) (arrows : List Arrow) → ((i : ℕ) → i < length arrows → IsArrow states (arrow_at arrows i)) → (i : ℕ) (a : Arrow) → i < length arrows
    → a ≡ get_or arrows i a → IsArrow states a
taken states arrows real i a l e = subst (λ (b : Arrow). IsArrow states b) (sym (e ∙ get_or_default arrows i a (record { state = 0; edge = 0; target = 0 }) l)) (real i l)

pub places-shown : (shown : List ℕ) (n : ℕ) (xs : List ℕ) (m : ℕ) → shown ≡ places_from 0 n xs → length xs ≡ m → (k d : ℕ) → k < length shown → get_or shown k d < m
places-shown shown n xs m e f k d l =
    let b = places-below n xs k d (subst (λ (ns : List ℕ). k < length ns) e l) in
    subst (λ (ns : List ℕ). get_or ns k d < m) (sym e) (omega (arith, b, f))

-- the place and the state of a cell
pub cell-place : (cell cells count width s : ℕ) → cells ≡ count * width → cell < cells → s ≡ width → 0 < width → cell / s < count
cell-place cell cells count width s e l f p = subst (λ n. cell / n < count) (sym f) (div_below cell width count p (subst (λ n. cell < n) e l))

pub cell-state : (cell width s : ℕ) → s ≡ width → 0 < width → cell % s < width
cell-state cell width s f p = subst (λ n. cell % n < width) (sym f) (mod_below cell width p)
