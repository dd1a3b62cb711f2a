-- The searches over the cells of a chart.
use Rattle.std.proofs.Common.{◌≡◌, refl, sym, ap, ◌∙◌, subst, ℕ, ◌*◌, ◌/◌, ◌%◌, ◌<◌, Bool as Truth, false, List, [], ◌∷◌, ◌++◌, length, replicate, get_or, arith}
use Rattle.std.specs.Prelude.{IsTrue, slice_index_or}
use Rattle.std.proofs.lemmas.Nat.{div_below, mod_below}
use Rattle.psl_tree.specs.declared.letter.Letter.{Letter}
use Rattle.psl_tree.specs.declared.letter.Word.{Word}
use Rattle.psl_tree.specs.SequenceAutomata.{state_at}
use Rattle.sere_nfa.specs.Marking.{Marking, is_marked, visit_all}
use Rattle.sere_nfa.proofs.Reach.{EachBelow, work}
use Rattle.psl_tree.proofs.SequenceSteps.{StepTo}
use Rattle.lasso_judge.specs.Arrows.{places_from, IsChart}
use Rattle.lasso_judge.specs.Cells.{cells_back, fresh_back, ends_at, numbers_below, AreHits, fall_all, AreFallen, IsFirstFallen}
use Rattle.lasso_tables.specs.Seen.{seen_at, course_by, IsWhole}
use Rattle.lasso_judge.specs.declared.chart.Chart.{Chart}
use Rattle.lasso_judge.proofs.Cellular.{cell-below, each-member, all-each}
use Rattle.lasso_judge.proofs.Edges.{step-target, before_cell, before-there}
use Rattle.lasso_judge.proofs.Fresh.{fresh, fresh-back, each-fresh, visit-fresh, fall-fresh}
use Rattle.lasso_judge.proofs.Hitting as hitting
use Rattle.lasso_judge.proofs.Lasting as lasting

module _ (word : Word) (flipped : Truth) (next : List ℕ) (chart : Chart) (drawn : IsChart next chart) where
  abbrev width : ℕ
  width = length chart.nfa.states

  abbrev letter : ℕ → Letter
  letter p = seen_at word flipped p

  targets : (q : ℕ) (x : Letter) (t : ℕ) → StepTo (state_at chart.nfa.states q).edges x t → t < length chart.nfa.states
  targets = step-target chart.nfa drawn.drawn.sound

  pub cells-are : chart.cells ≡ length next * length chart.nfa.states
  cells-are = drawn.drawn.cells ∙ ap (λ n. n * length chart.nfa.states) drawn.before_length

  -- the listed cells are those before the cell
  found-is : (x : ℕ) (found : List ℕ) → x < length next * length chart.nfa.states
      → found ≡ cells_back chart.nfa.states (λ p. seen_at word flipped p) chart.arrows.items (slice_index_or chart.before.items (x / length chart.nfa.states) []) (slice_index_or chart.into.items (x % length chart.nfa.states) [])
      → found ≡ before_cell chart.nfa.states (λ p. seen_at word flipped p) chart.arrows.items drawn.drawn.arrows next (x / length chart.nfa.states) (x % length chart.nfa.states)
  found-is x found l e = e
      ∙ (ap (λ (ps : List ℕ). cells_back chart.nfa.states (λ p. seen_at word flipped p) chart.arrows.items ps (slice_index_or chart.into.items (x % length chart.nfa.states) []))
      (drawn.before (x / length chart.nfa.states) (div_below x (length chart.nfa.states) (length next) drawn.drawn.some l))
      ∙ ap (λ (ns : List ℕ). cells_back chart.nfa.states (λ p. seen_at word flipped p) chart.arrows.items (places_from 0 (x / length chart.nfa.states) next) ns)
      (drawn.drawn.into (x % length chart.nfa.states) (mod_below x (length chart.nfa.states) drawn.drawn.some)))

  each-found : (x : ℕ) (found : List ℕ) → x < length next * length chart.nfa.states
      → found ≡ cells_back chart.nfa.states (λ p. seen_at word flipped p) chart.arrows.items (slice_index_or chart.before.items (x / length chart.nfa.states) []) (slice_index_or chart.into.items (x % length chart.nfa.states) [])
      → EachBelow (length next * length chart.nfa.states) found
  each-found x found l e = subst (λ (ns : List ℕ). EachBelow (length next * length chart.nfa.states) ns) (sym (found-is x found l e))
      (each-member (length next * length chart.nfa.states) (before_cell chart.nfa.states (λ p. seen_at word flipped p) chart.arrows.items drawn.drawn.arrows next (x / length chart.nfa.states) (x % length chart.nfa.states))
      (λ y h. let r = before-there chart.nfa.states (λ p. seen_at word flipped p) chart.arrows.items drawn.drawn.arrows next (x / length chart.nfa.states) (x % length chart.nfa.states) y h in
      let b = cell-below (length next) (length chart.nfa.states) r.0 r.1 r.2.place_below r.2.state_below in omega (arith, b, r.2.cell)))

  -- the cells before the cell
  abbrev before-x : ℕ → List ℕ
  before-x x = cells_back chart.nfa.states (λ p. seen_at word flipped p) chart.arrows.items (slice_index_or chart.before.items (x / length chart.nfa.states) []) (slice_index_or chart.into.items (x % length chart.nfa.states) [])

  -- what is listed for a cell that waited lies within the marks
  pub found-below : (x cells : ℕ) (marks : List Truth) (found shown : List ℕ) → cells ≡ length next * length chart.nfa.states → x < chart.cells
      → found ≡ fresh_back chart.nfa.states (λ p. seen_at word flipped p) chart.arrows.items marks (slice_index_or chart.before.items (x / length chart.nfa.states) []) (slice_index_or chart.into.items (x % length chart.nfa.states) [])
      → shown ≡ found → (k d : ℕ) → k < length shown → get_or shown k d < cells
  found-below x cells marks found shown c l e f = subst (λ (ns : List ℕ). (k d : ℕ) → k < length ns → get_or ns k d < cells) (sym (f ∙ (e ∙ sym (fresh-back chart.nfa.states (λ p. seen_at word flipped p) chart.arrows.items marks (slice_index_or chart.before.items (x / length chart.nfa.states) []) (slice_index_or chart.into.items (x % length chart.nfa.states) [])))))
      (all-each cells (fresh marks (before-x x)) (each-fresh cells marks (before-x x) (subst (λ n. EachBelow n (before-x x)) (sym c) (each-found x (before-x x) (subst (λ n. x < n) cells-are l) refl))))

  module _ (whole : IsWhole word next) where
    module _ (hits : List Truth) where
      pub hits-begin : (m : Marking)
          → m ≡ visit_all (record { marks = replicate chart.cells false; waiting = [] }) (numbers_below (λ cell. ends_at chart.nfa.states (λ p. seen_at word flipped p) hits cell) chart.cells)
          → hitting.IsHitSearch word flipped next chart.nfa.states chart.arrows.items hits m
      hits-begin m made = hitting.begun-search word flipped next chart.nfa.states chart.arrows.items hits drawn.drawn.arrows whole.below targets m chart.cells cells-are made

      pub hits-below : (m : Marking) (waiting : List ℕ) (x : ℕ) → hitting.IsHitSearch word flipped next chart.nfa.states chart.arrows.items hits m → m.waiting ≡ waiting ++ x ∷ [] → x < chart.cells
      hits-below m waiting x s e = hitting.waiting-below word flipped next chart.nfa.states chart.arrows.items hits drawn.drawn.arrows whole.below targets m waiting x chart.cells cells-are s e

      pub hits-more : (m : Marking) (waiting : List ℕ) (x : ℕ) (marks : List Truth) (found shown : List ℕ) (new : Marking)
          → hitting.IsHitSearch word flipped next chart.nfa.states chart.arrows.items hits m → m.waiting ≡ waiting ++ x ∷ []
          → marks ≡ m.marks → found ≡ fresh_back chart.nfa.states (λ p. seen_at word flipped p) chart.arrows.items marks (slice_index_or chart.before.items (x / length chart.nfa.states) []) (slice_index_or chart.into.items (x % length chart.nfa.states) [])
          → shown ≡ found → new ≡ visit_all (record { marks = m.marks; waiting = waiting }) shown
          → hitting.IsHitSearch word flipped next chart.nfa.states chart.arrows.items hits new × (work new < work m)
      hits-more m waiting x marks found shown new s e same f g made =
          let below = subst (λ n. x < n) cells-are (hits-below m waiting x s e) in
          hitting.more-search word flipped next chart.nfa.states chart.arrows.items hits drawn.drawn.arrows whole.below targets m waiting x (before-x x) new drawn.drawn.some s e
          (found-is x (before-x x) below refl)
          (made ∙ (ap (λ (ns : List ℕ). visit_all (record { marks = m.marks; waiting = waiting }) ns) (g ∙ (f ∙ sym (fresh-back chart.nfa.states (λ p. seen_at word flipped p) chart.arrows.items marks (slice_index_or chart.before.items (x / length chart.nfa.states) []) (slice_index_or chart.into.items (x % length chart.nfa.states) []))))
          ∙ visit-fresh marks (record { marks = m.marks; waiting = waiting }) (before-x x) (λ y h. subst (λ (ms : List Truth). IsTrue (is_marked ms y)) same h)
          (subst (λ n. EachBelow n (before-x x)) (sym s.same_length) (each-found x (before-x x) below refl))))

      pub hits-end : (m : Marking) → hitting.IsHitSearch word flipped next chart.nfa.states chart.arrows.items hits m → m.waiting ≡ [] → AreHits chart.nfa.states (course_by word flipped next) (length next) hits m.marks
      hits-end m s e = hitting.ended-search word flipped next chart.nfa.states chart.arrows.items hits drawn.drawn.arrows whole.below targets m s e

    pub falls-begin : (m : Marking) → IsFirstFallen chart.nfa.states (λ p. seen_at word flipped p) next chart.cells m → lasting.IsFallSearch word flipped next chart.nfa.states [] m
    falls-begin m s = lasting.begun-search word flipped next chart.nfa.states whole.below targets m chart.cells cells-are s

    pub falls-below : (m : Marking) (waiting : List ℕ) (x : ℕ) → lasting.IsFallSearch word flipped next chart.nfa.states [] m → m.waiting ≡ waiting ++ x ∷ [] → x < chart.cells
    falls-below m waiting x s e = lasting.waiting-below word flipped next chart.nfa.states whole.below targets m waiting x chart.cells cells-are s e

    pub falls-more : (m : Marking) (waiting : List ℕ) (x : ℕ) (marks : List Truth) (found shown : List ℕ) (new : Marking) → lasting.IsFallSearch word flipped next chart.nfa.states [] m
        → m.waiting ≡ waiting ++ x ∷ [] → marks ≡ m.marks
        → found ≡ fresh_back chart.nfa.states (λ p. seen_at word flipped p) chart.arrows.items marks (slice_index_or chart.before.items (x / length chart.nfa.states) []) (slice_index_or chart.into.items (x % length chart.nfa.states) [])
        → shown ≡ found → new ≡ fall_all chart.nfa.states (λ p. seen_at word flipped p) next (record { marks = m.marks; waiting = waiting }) shown
        → lasting.IsFallSearch word flipped next chart.nfa.states [] new × (work new < work m)
    falls-more m waiting x marks found shown new s e same f g made =
        let below = subst (λ n. x < n) cells-are (falls-below m waiting x s e) in
        lasting.more-search word flipped next chart.nfa.states whole.below targets chart.arrows.items drawn.drawn.arrows m waiting x (before-x x) new below drawn.drawn.some s e
        (found-is x (before-x x) below refl) (each-found x (before-x x) below refl)
        (made ∙ (ap (λ (ns : List ℕ). fall_all chart.nfa.states (λ p. seen_at word flipped p) next (record { marks = m.marks; waiting = waiting }) ns) (g ∙ (f ∙ sym (fresh-back chart.nfa.states (λ p. seen_at word flipped p) chart.arrows.items marks (slice_index_or chart.before.items (x / length chart.nfa.states) []) (slice_index_or chart.into.items (x % length chart.nfa.states) []))))
        ∙ fall-fresh chart.nfa.states (λ p. seen_at word flipped p) next marks (record { marks = m.marks; waiting = waiting }) (before-x x)
        (λ y h. subst (λ (ms : List Truth). IsTrue (is_marked ms y)) same h)
        (subst (λ n. EachBelow n (before-x x)) (sym s.same_length) (each-found x (before-x x) below refl))))

    pub falls-end : (m : Marking) → lasting.IsFallSearch word flipped next chart.nfa.states [] m → m.waiting ≡ [] → AreFallen chart.nfa.states (course_by word flipped next) (length next) m.marks
    falls-end m s e = lasting.ended-search word flipped next chart.nfa.states whole.below targets m s e
