-- What a chart keeps of the labels of its arrows.
use Rattle.std.proofs.Common.{◌≡◌, inl, inr, refl, sym, ap, ◌∙◌, subst, ℕ, zero, suc, ◌+◌, ◌/◌, ◌%◌, ◌<◌, Bool as Truth, true, false, Option, None, Some, List, [], ◌∷◌, ◌++◌, length, map, get_or, All, arith}
use Rattle.std.specs.Prelude.{IsTrue, ◌&&◌, not, if◌then◌else◌, slice_index}
use Rattle.std.proofs.lemmas.Nat.{div-mul-add, mod-mul-add}
use Rattle.std.proofs.lemmas.List.{length-append, length-map, get_or_append_left, get_or-map, get_or_default}
use Rattle.std.proofs.Math.Seq.{get_or-append_seam}
use Rattle.psl_tree.specs.Holds.{holds}
use Rattle.psl_tree.specs.Trees.{Const}
use Rattle.psl_tree.specs.declared.letter.Letter.{Letter}
use Rattle.psl_tree.specs.SequenceAutomata.{Edge, State, state_at}
use Rattle.sere_nfa.specs.Views.{edge_of, edges_of}
use Rattle.sere_nfa.specs.declared.edge.NfaEdge.{NfaEdge}
use Rattle.sere_nfa.proofs.Reach.{Member}
use Rattle.lasso_judge.specs.Arrows.{edge_at, arrow_at, label_of, IsDrawn}
use Rattle.lasso_judge.specs.Cells.{cell_of, fresh_at}
use Rattle.lasso_judge.specs.Labels.{known_at, into_at, left_by, unmarked_at, AreSources, AreAlike, IsUniform, AreUniform, IsKnown, AreKnown, IsTold, IsLabelled}
use Rattle.lasso_tables.specs.Tables.{value_at}
use Rattle.lasso_judge.specs.declared.chart.Arrow.{Arrow}
use Rattle.lasso_judge.specs.declared.chart.Chart.{Chart}
use Rattle.lasso_judge.proofs.Cellular.{cell-below}
use Rattle.lasso_judge.proofs.Drawn.{arrows-whole, places-there, places-back}
use Rattle.lasso_tables.proofs.Pushed.{below-more}

-- one value more, which is as it should be
pushed : {A : Type 0} (d : A) (i : ℕ) (P : ℕ → A → Type 0) (xs : List A) (x : A) → length xs ≡ i → ((p : ℕ) → p < i → P p (get_or xs p d)) → P i x
    → (p : ℕ) → p < i + 1 → P p (get_or (xs ++ x ∷ []) p d)
pushed {A} d i P xs x e h here = below-more i (λ p. P p (get_or (xs ++ x ∷ []) p d))
    (λ p l. subst (λ (y : A). P p y) (sym (get_or_append_left xs (x ∷ []) d p (omega (arith, l, e)))) (h p l))
    (subst (λ (k : ℕ). P k (get_or (xs ++ x ∷ []) k d)) e
    (subst (λ (y : A). P (length xs) y) (sym (get_or-append_seam xs x [] d)) (subst (λ (k : ℕ). P k x) (sym e) here)))

pub sources_none : (chart : Chart) → AreSources chart 0 []
sources_none chart = record { same_length = refl; each = λ q l. absurd (omega arith) }

pub sources_push : (chart : Chart) (i : ℕ) (lists : List (List ℕ)) (one : List ℕ) → AreSources chart i lists → one ≡ left_by chart.arrows.items (into_at chart i) → AreSources chart (i + 1) (lists ++ one ∷ [])
sources_push chart i lists one h e = record {
  same_length = omega (arith, length-append lists (one ∷ []), h.same_length);
  each = pushed [] i (λ q ns. ns ≡ left_by chart.arrows.items (into_at chart q)) lists one h.same_length h.each e;
}

pub uniform_none : (chart : Chart) → AreUniform chart 0 []
uniform_none chart = record { same_length = refl; each = λ q l. absurd (omega arith) }

pub uniform_push : (chart : Chart) (i : ℕ) (marks : List Truth) (mark : Truth) → AreUniform chart i marks → (IsTrue mark → IsUniform chart i) → AreUniform chart (i + 1) (marks ++ mark ∷ [])
uniform_push chart i marks mark h e = record {
  same_length = omega (arith, length-append marks (mark ∷ []), h.same_length);
  each = pushed false i (λ q (b : Truth). IsTrue b → IsUniform chart q) marks mark h.same_length h.each e;
}

pub known_none : (letter : ℕ → Letter) (chart : Chart) → AreKnown letter chart 0 []
known_none letter chart = record { same_length = refl; each = λ q l. absurd (omega arith) }

pub known_push : (letter : ℕ → Letter) (chart : Chart) (i : ℕ) (values : List (Option Truth)) (known : Option Truth) → AreKnown letter chart i values
    → IsKnown letter chart (i / length chart.nfa.states) (i % length chart.nfa.states) known → AreKnown letter chart (i + 1) (values ++ known ∷ [])
known_push letter chart i values known h e = record {
  same_length = omega (arith, length-append values (known ∷ []), h.same_length);
  each = pushed None i (λ c (o : Option Truth). IsKnown letter chart (c / length chart.nfa.states) (c % length chart.nfa.states) o) values known h.same_length h.each e;
}

pub alike_none : (chart : Chart) (numbers : List ℕ) → AreAlike chart numbers 0
alike_none chart numbers = λ k l. absurd (omega arith)

pub alike_more : (chart : Chart) (numbers : List ℕ) (i : ℕ) → AreAlike chart numbers i
    → label_of chart.nfa.states (arrow_at chart.arrows.items (slice_index numbers i)) ≡ label_of chart.nfa.states (arrow_at chart.arrows.items (slice_index numbers 0))
    → AreAlike chart numbers (i + 1)
alike_more chart numbers i h e = below-more i (λ k. label_of chart.nfa.states (arrow_at chart.arrows.items (slice_index numbers k)) ≡ label_of chart.nfa.states (arrow_at chart.arrows.items (slice_index numbers 0))) h e

-- a member of a list stands somewhere in it, and what stands in it is a member
member-at : (n : ℕ) (ns : List ℕ) → Member n ns → (j : ℕ) × (j < length ns) × (slice_index ns j ≡ n)
member-at n [] h = absurd h
member-at n (m ∷ ns) (inl e) = (0, omega arith, sym e)
member-at n (m ∷ ns) (inr h) = let r = member-at n ns h in (suc r.0, omega (arith, r.1), r.2)

at-member : (ns : List ℕ) (j : ℕ) → j < length ns → Member (slice_index ns j) ns
at-member [] j l = absurd (omega arith)
at-member (n ∷ ns) zero l = inl refl
at-member (n ∷ ns) (suc j) l = inr (at-member ns j (omega arith))

-- what is known of cells is told of edges
pub told-of : (letter : ℕ → Letter) (chart : Chart) (values : List (Option Truth)) → IsDrawn chart → AreKnown letter chart chart.cells values
    → (q k : ℕ) → q < length chart.nfa.states → k < length (state_at chart.nfa.states q).edges
    → (p : ℕ) (v : Truth) → p < length chart.before.items
    → known_at values (cell_of (length chart.nfa.states) p (edge_at (state_at chart.nfa.states q).edges k).target) ≡ Some v
    → v ≡ holds (letter p) (edge_at (state_at chart.nfa.states q).edges k).label
told-of letter chart values drawn known q k l m p v i e =
    let w : ℕ = length chart.nfa.states in
    let t : ℕ = (edge_at (state_at chart.nfa.states q).edges k).target in
    let below : t < w = (drawn.sound.targets_below q k (record { label = Const false; target = 0 }) m).1 in
    let c : ℕ = cell_of w p t in
    let inside : c < chart.cells = omega (arith, cell-below (length chart.before.items) w p t i below, drawn.cells) in
    let is = known.each c inside v e in
    let place : c / w ≡ p = div-mul-add p w t below in
    let state : c % w ≡ t = mod-mul-add p w t below in
    let a = arrows-whole chart.nfa.states chart.arrows.items drawn.arrows q k l m in
    let r = drawn.real a.0 a.1.below in
    let edge : edge_at (state_at chart.nfa.states (arrow_at chart.arrows.items a.0).state).edges (arrow_at chart.arrows.items a.0).edge ≡ edge_at (state_at chart.nfa.states q).edges k =
    ap (λ n. edge_at (state_at chart.nfa.states n).edges (arrow_at chart.arrows.items a.0).edge) a.1.state_is ∙ ap (λ n. edge_at (state_at chart.nfa.states q).edges n) a.1.edge_is in
    let target : slice_index (map (λ (a : Arrow). a.target) chart.arrows.items) a.0 ≡ t =
    get_or-map (λ (a : Arrow). a.target) chart.arrows.items a.0 (record { state = 0; edge = 0; target = 0 }) 0 a.1.below ∙ (r.leads ∙ ap (λ (f : Edge). f.target) edge) in
    let member : Member a.0 (into_at chart t) = subst (λ (ns : List ℕ). Member a.0 ns) (sym (drawn.into t below))
    (places-back a.0 0 t (map (λ (a : Arrow). a.target) chart.arrows.items) a.0 (omega arith) (omega (arith, a.1.below, length-map chart.arrows.items (λ (a : Arrow). a.target))) target) in
    let j = member-at a.0 (into_at chart t) member in
    let u : IsUniform chart t = subst (λ n. IsUniform chart n) state is.0 in
    is.1
    ∙ (ap (λ n. holds (letter n) (label_of chart.nfa.states (arrow_at chart.arrows.items (slice_index (into_at chart (c % w)) 0)))) place
    ∙ (ap (λ n. holds (letter p) (label_of chart.nfa.states (arrow_at chart.arrows.items (slice_index (into_at chart n) 0)))) state
    ∙ (ap (λ b. holds (letter p) b) (sym (u.alike j.0 j.1))
    ∙ (ap (λ n. holds (letter p) (label_of chart.nfa.states (arrow_at chart.arrows.items n))) j.2
    ∙ ap (λ (f : Edge). holds (letter p) f.label) edge))))

module _ (chart : Chart) (drawn : IsDrawn chart) where
  -- what leads to a state are arrows to it
  into-arrow : (t : ℕ) → t < length chart.nfa.states → (j : ℕ) → j < length (into_at chart t)
      → (slice_index (into_at chart t) j < length chart.arrows.items) × ((arrow_at chart.arrows.items (slice_index (into_at chart t) j)).target ≡ t)
  into-arrow t l j m =
      let n : ℕ = slice_index (into_at chart t) j in
      let s = places-there n 0 t (map (λ (a : Arrow). a.target) chart.arrows.items) (subst (λ (ns : List ℕ). Member n ns) (drawn.into t l) (at-member (into_at chart t) j m)) in
      let same : n ≡ s.0 = omega (arith, s.1) in
      let below : n < length chart.arrows.items = omega (arith, s.2, same, length-map chart.arrows.items (λ (a : Arrow). a.target)) in (
        below,
        sym (get_or-map (λ (a : Arrow). a.target) chart.arrows.items n (record { state = 0; edge = 0; target = 0 }) 0 below) ∙ (ap (λ k. slice_index (map (λ (a : Arrow). a.target) chart.arrows.items) k) same ∙ s.3),
      )

  pub into-below : (t : ℕ) → t < length chart.nfa.states → All (λ n. n < length chart.arrows.items) (into_at chart t)
  into-below t l k d m = subst (λ n. n < length chart.arrows.items) (get_or_default (into_at chart t) k 0 d m) (into-arrow t l k m).0

  pub sources-below : (t : ℕ) → t < length chart.nfa.states → All (λ q. q < length chart.nfa.states) (left_by chart.arrows.items (into_at chart t))
  sources-below t l k d m =
      let n : k < length (into_at chart t) = omega (arith, m, length-map (into_at chart t) (λ n. (arrow_at chart.arrows.items n).state)) in
      subst (λ q. q < length chart.nfa.states)
      (sym (get_or-map (λ n. (arrow_at chart.arrows.items n).state) (into_at chart t) k 0 d n))
      (drawn.real (slice_index (into_at chart t) k) (into-arrow t l k n).0).state_below

  -- what is known of a cell holds of all arrows to its state
  into-held : (letter : ℕ → Letter) → IsLabelled letter chart → (t p : ℕ) (v : Truth) → t < length chart.nfa.states → p < length chart.before.items
      → known_at chart.values.items (cell_of (length chart.nfa.states) p t) ≡ Some v
      → (j : ℕ) → j < length (into_at chart t) → holds (letter p) (label_of chart.nfa.states (arrow_at chart.arrows.items (slice_index (into_at chart t) j))) ≡ v
  into-held letter labelled t p v l i e j m =
      let n = into-arrow t l j m in
      let r = drawn.real (slice_index (into_at chart t) j) n.0 in
      let a = arrow_at chart.arrows.items (slice_index (into_at chart t) j) in
      sym (labelled.told a.state a.edge r.state_below r.edge_below p v i
      (ap (λ k. known_at chart.values.items (cell_of (length chart.nfa.states) p k)) (sym r.leads ∙ n.1) ∙ e))

module _ (states : List State) (letter : ℕ → Letter) (arrows : List Arrow) (marks : List Truth) (p : ℕ) where
  none-fresh : (ns : List ℕ) → ((j : ℕ) → j < length ns → holds (letter p) (label_of states (arrow_at arrows (slice_index ns j))) ≡ false) → fresh_at states letter arrows marks p ns ≡ []
  none-fresh [] h = refl
  none-fresh (n ∷ ns) h =
      ap (λ (b : Truth). (if not (value_at marks (cell_of (length states) p (arrow_at arrows n).state)) && b then cell_of (length states) p (arrow_at arrows n).state ∷ [] else []) ++ fresh_at states letter arrows marks p ns) (h 0 (omega arith))
      ∙ (at (value_at marks (cell_of (length states) p (arrow_at arrows n).state)) (cell_of (length states) p (arrow_at arrows n).state ∷ []) (fresh_at states letter arrows marks p ns)
      ∙ none-fresh ns (λ j l. h (suc j) (omega arith)))
    where
      at : (b : Truth) (xs ys : List ℕ) → (if not b && false then xs else []) ++ ys ≡ ys
      at true xs ys = refl
      at false xs ys = refl

  all-fresh : (ns : List ℕ) → ((j : ℕ) → j < length ns → holds (letter p) (label_of states (arrow_at arrows (slice_index ns j))) ≡ true)
      → unmarked_at (length states) marks p (left_by arrows ns) ≡ fresh_at states letter arrows marks p ns
  all-fresh [] h = refl
  all-fresh (n ∷ ns) h =
      ap (λ (ys : List ℕ). (if value_at marks (cell_of (length states) p (arrow_at arrows n).state) then [] else cell_of (length states) p (arrow_at arrows n).state ∷ []) ++ ys) (all-fresh ns (λ j l. h (suc j) (omega arith)))
      ∙ (at (value_at marks (cell_of (length states) p (arrow_at arrows n).state)) (cell_of (length states) p (arrow_at arrows n).state ∷ []) (fresh_at states letter arrows marks p ns)
      ∙ ap (λ (b : Truth). (if not (value_at marks (cell_of (length states) p (arrow_at arrows n).state)) && b then cell_of (length states) p (arrow_at arrows n).state ∷ [] else []) ++ fresh_at states letter arrows marks p ns) (sym (h 0 (omega arith))))
    where
      at : (b : Truth) (xs ys : List ℕ) → (if b then [] else xs) ++ ys ≡ (if not b && true then xs else []) ++ ys
      at true xs ys = refl
      at false xs ys = refl

-- the cells of a place from which an arrow to a state can be taken, by what is known of the state there
pub none-before : (letter : ℕ → Letter) (chart : Chart) (marks : List Truth) (t p : ℕ) → IsDrawn chart → IsLabelled letter chart → t < length chart.nfa.states → p < length chart.before.items
    → known_at chart.values.items (cell_of (length chart.nfa.states) p t) ≡ Some false
    → fresh_at chart.nfa.states letter chart.arrows.items marks p (into_at chart t) ≡ []
none-before letter chart marks t p drawn labelled l i e = none-fresh chart.nfa.states letter chart.arrows.items marks p (into_at chart t) (into-held chart drawn letter labelled t p false l i e)

pub all-before : (letter : ℕ → Letter) (chart : Chart) (marks : List Truth) (t p : ℕ) → IsDrawn chart → IsLabelled letter chart → t < length chart.nfa.states → p < length chart.before.items
    → known_at chart.values.items (cell_of (length chart.nfa.states) p t) ≡ Some true
    → unmarked_at (length chart.nfa.states) marks p (left_by chart.arrows.items (into_at chart t)) ≡ fresh_at chart.nfa.states letter chart.arrows.items marks p (into_at chart t)
all-before letter chart marks t p drawn labelled l i e = all-fresh chart.nfa.states letter chart.arrows.items marks p (into_at chart t) (into-held chart drawn letter labelled t p true l i e)

-- each edge of a state is told of
pub edges-told : (letter : ℕ → Letter) (chart : Chart) (q : ℕ) (es : List NfaEdge) → IsLabelled letter chart → q < length chart.nfa.states → edges_of es ≡ (state_at chart.nfa.states q).edges
    → All (λ (e : NfaEdge). IsTold letter chart (edge_of e)) es
edges-told letter chart q es labelled l same k d m =
    let n : k < length (edges_of es) = omega (arith, m, length-map es edge_of) in
    let none : Edge = record { label = Const false; target = 0 } in
    let is : edge_at (state_at chart.nfa.states q).edges k ≡ edge_of (get_or es k d) =
    ap (λ (fs : List Edge). edge_at fs k) (sym same) ∙ get_or-map edge_of es k d none m in
    subst (λ (f : Edge). IsTold letter chart f) is (labelled.told q k l (subst (λ (fs : List Edge). k < length fs) same n))
