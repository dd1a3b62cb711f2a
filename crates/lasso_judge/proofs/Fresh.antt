-- Lists of cells without the marked ones: to visit these cells, or to look whether they fall, is to do so
-- with all.
use Rattle.std.proofs.Common.{◌≡◌, refl, sym, ap, ◌∙◌, subst, ℕ, ◌<◌, Bool as Truth, true, false, List, [], ◌∷◌, ◌++◌, length}
use Rattle.std.specs.Prelude.{IsTrue, ◌&&◌, not, if◌then◌else◌, slice_set}
use Rattle.psl_tree.specs.Holds.{holds}
use Rattle.psl_tree.specs.declared.letter.Letter.{Letter}
use Rattle.psl_tree.specs.SequenceAutomata.{State}
use Rattle.sere_nfa.specs.Marking.{Marking, is_marked, visit, visit_all}
use Rattle.sere_nfa.proofs.Reach.{EachBelow, visits-all}
use Rattle.lasso_judge.specs.Arrows.{arrow_at, label_of}
use Rattle.lasso_judge.specs.Cells.{cell_of, cells_at, cells_back, fresh_at, fresh_back, lasts_at, fall, fall_all}
use Rattle.lasso_judge.specs.declared.chart.Arrow.{Arrow}
use Rattle.lasso_judge.proofs.Visiting.{fall_marked}

-- those that are not marked
abbrev pub fresh : List Truth → List ℕ → List ℕ
fresh marks [] = []
fresh marks (y ∷ ys) = if is_marked marks y then fresh marks ys else y ∷ fresh marks ys

fresh-append : (marks : List Truth) (xs ys : List ℕ) → fresh marks (xs ++ ys) ≡ fresh marks xs ++ fresh marks ys
fresh-append marks [] ys = refl
fresh-append marks (x ∷ xs) ys = at (is_marked marks x) (fresh-append marks xs ys)
  where
    at : (b : Truth) → fresh marks (xs ++ ys) ≡ fresh marks xs ++ fresh marks ys → (if b then fresh marks (xs ++ ys) else x ∷ fresh marks (xs ++ ys)) ≡ (if b then fresh marks xs else x ∷ fresh marks xs) ++ fresh marks ys
    at true h = h
    at false h = ap (λ (l : List ℕ). x ∷ l) h

fresh-one : (marks : List Truth) (c : ℕ) (b : Truth) → fresh marks (if b then c ∷ [] else []) ≡ (if not (is_marked marks c) && b then c ∷ [] else [])
fresh-one marks c true = at (is_marked marks c)
  where
    at : (k : Truth) → (if k then [] else c ∷ []) ≡ (if not k && true then c ∷ [] else [])
    at true = refl
    at false = refl
fresh-one marks c false = at (is_marked marks c)
  where
    at : (k : Truth) → [] ≡ (if not k && false then c ∷ [] else [])
    at true = refl
    at false = refl

module _ (states : List State) (letter : ℕ → Letter) (arrows : List Arrow) (marks : List Truth) where
  fresh-at : (p : ℕ) (ns : List ℕ) → fresh marks (cells_at states letter arrows p ns) ≡ fresh_at states letter arrows marks p ns
  fresh-at p [] = refl
  fresh-at p (n ∷ ns) =
      fresh-append marks (if holds (letter p) (label_of states (arrow_at arrows n)) then cell_of (length states) p (arrow_at arrows n).state ∷ [] else []) (cells_at states letter arrows p ns)
      ∙ (ap (λ (l : List ℕ). l ++ fresh marks (cells_at states letter arrows p ns)) (fresh-one marks (cell_of (length states) p (arrow_at arrows n).state) (holds (letter p) (label_of states (arrow_at arrows n))))
      ∙ ap (λ (l : List ℕ). (if not (is_marked marks (cell_of (length states) p (arrow_at arrows n).state)) && holds (letter p) (label_of states (arrow_at arrows n))
      then cell_of (length states) p (arrow_at arrows n).state ∷ [] else []) ++ l) (fresh-at p ns))

  pub fresh-back : (ps ns : List ℕ) → fresh marks (cells_back states letter arrows ps ns) ≡ fresh_back states letter arrows marks ps ns
  fresh-back [] ns = refl
  fresh-back (p ∷ ps) ns =
      fresh-append marks (cells_at states letter arrows p ns) (cells_back states letter arrows ps ns)
      ∙ (ap (λ (l : List ℕ). l ++ fresh marks (cells_back states letter arrows ps ns)) (fresh-at p ns)
      ∙ ap (λ (l : List ℕ). fresh_at states letter arrows marks p ns ++ l) (fresh-back ps ns))

pub each-fresh : (m : ℕ) (marks : List Truth) (ys : List ℕ) → EachBelow m ys → EachBelow m (fresh marks ys)
each-fresh m marks [] h = tt
each-fresh m marks (y ∷ ys) h = at (is_marked marks y) (each-fresh m marks ys h.1)
  where
    at : (b : Truth) → EachBelow m (fresh marks ys) → EachBelow m (if b then fresh marks ys else y ∷ fresh marks ys)
    at true k = k
    at false k = (h.0, k)

-- what was marked stays marked
abbrev pub Stay : List Truth → List Truth → Type 0
Stay old new = (y : ℕ) → IsTrue (is_marked old y) → IsTrue (is_marked new y)

visit-marked : (m : Marking) (y : ℕ) → IsTrue (is_marked m.marks y) → visit m y ≡ m
visit-marked m y e = ap (λ (t : Truth). if t then m else record { marks = slice_set m.marks y true; waiting = m.waiting ++ y ∷ [] }) e

pub visit-stay : (m : Marking) (y : ℕ) → y < length m.marks → Stay m.marks (visit m y).marks
visit-stay m y l = (visits-all m (y ∷ []) (l, tt)).stay

visit-length : (m : Marking) (y : ℕ) → y < length m.marks → length (visit m y).marks ≡ length m.marks
visit-length m y l = (visits-all m (y ∷ []) (l, tt)).same_length

pub visit-fresh : (marks : List Truth) (m : Marking) (ys : List ℕ) → Stay marks m.marks → EachBelow (length m.marks) ys → visit_all m (fresh marks ys) ≡ visit_all m ys
visit-fresh marks m [] s h = refl
visit-fresh marks m (y ∷ ys) s h = at (is_marked marks y) refl (visit-fresh marks m ys s h.1)
    (visit-fresh marks (visit m y) ys (λ z k. visit-stay m y h.0 z (s z k)) (subst (λ n. EachBelow n ys) (sym (visit-length m y h.0)) h.1))
  where
    at : (b : Truth) → is_marked marks y ≡ b → visit_all m (fresh marks ys) ≡ visit_all m ys → visit_all (visit m y) (fresh marks ys) ≡ visit_all (visit m y) ys
        → visit_all m (if b then fresh marks ys else y ∷ fresh marks ys) ≡ visit_all (visit m y) ys
    at true e f g = f ∙ ap (λ (n : Marking). visit_all n ys) (sym (visit-marked m y (s y e)))
    at false e f g = g

module _ (states : List State) (letter : ℕ → Letter) (next : List ℕ) where
  fall-stay : (m : Marking) (y : ℕ) (b : Truth) → y < length m.marks → Stay m.marks (if b then m else visit m y).marks
  fall-stay m y true l = λ z k. k
  fall-stay m y false l = visit-stay m y l

  fall-length : (m : Marking) (y : ℕ) (b : Truth) → y < length m.marks → length (if b then m else visit m y).marks ≡ length m.marks
  fall-length m y true l = refl
  fall-length m y false l = visit-length m y l

  pub fall-fresh : (marks : List Truth) (m : Marking) (ys : List ℕ) → Stay marks m.marks → EachBelow (length m.marks) ys
      → fall_all states letter next m (fresh marks ys) ≡ fall_all states letter next m ys
  fall-fresh marks m [] s h = refl
  fall-fresh marks m (y ∷ ys) s h = at (is_marked marks y) refl (fall-fresh marks m ys s h.1)
      (fall-fresh marks (fall states letter next m y) ys
      (λ z k. fall-stay m y (lasts_at states letter next m.marks y) h.0 z (s z k))
      (subst (λ n. EachBelow n ys) (sym (fall-length m y (lasts_at states letter next m.marks y) h.0)) h.1))
    where
      at : (b : Truth) → is_marked marks y ≡ b → fall_all states letter next m (fresh marks ys) ≡ fall_all states letter next m ys
          → fall_all states letter next (fall states letter next m y) (fresh marks ys) ≡ fall_all states letter next (fall states letter next m y) ys
          → fall_all states letter next m (if b then fresh marks ys else y ∷ fresh marks ys) ≡ fall_all states letter next (fall states letter next m y) ys
      at true e f g = f ∙ ap (λ (n : Marking). fall_all states letter next n ys) (fall_marked states letter next m y (s y e))
      at false e f g = g
