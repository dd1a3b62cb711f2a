-- The literals of a row, one behind another, and the cubes of rows.
use Rattle.std.proofs.Common.{◌≡◌, ℕ, zero, suc, ◌<◌, ◌≤◌, min, ℤ, Bool, true, false, cond, List, [], ◌∷◌, fold, drop, get_or, length, slice_get, Option, None, Some, refl, sym, ap, ◌∙◌, subst, arith}
use Rattle.std.specs.Bool.{IsTrue}
use Rattle.std.proofs.lemmas.Bool.{and_from, and_parts}
use Rattle.clauses.specs.declared.flat.TheConstants.{MOST_VARIABLES}
use Rattle.clauses.specs.Literals.{clause_within, clauses_within, is_literal, is_within}
use Rattle.netlist.specs.declared.rows.Mark.{Mark}
use Rattle.gates_nodes.proofs.Cubes.{cubes-within}
use Rattle.gates_nodes.specs.Nodes.{variables_of}
use Rattle.gates_nodes.specs.Tables.{asked, cubes, marked, sole, with_literal}
use Rattle.gates_builder.specs.Adding.{AreLiterals, AreOf, Making}

-- the first literal that is left of a row
pub asked-drop : (given : ℕ) (row : List Mark) (literals : List ℤ) (i : ℕ) (m : Mark) (d : ℤ) → i < length row → i < length literals →
    asked given (drop i row) (drop i literals) ≡ marked given (get_or row i m) (get_or literals i d) ∷ asked given (drop (suc i) row) (drop (suc i) literals)
asked-drop given [] literals i m d row_in in_ = absurd (omega arith)
asked-drop given (x ∷ row) [] i m d row_in in_ = absurd (omega arith)
asked-drop given (x ∷ row) (l ∷ literals) zero m d row_in in_ = refl
asked-drop given (x ∷ row) (l ∷ literals) (suc i) m d row_in in_ = asked-drop given row literals i m d (omega arith) (omega arith)

-- behind the shorter one nothing is left
pub asked-end : (given : ℕ) (row : List Mark) (literals : List ℤ) (i : ℕ) → min (length row) (length literals) ≤ i → asked given (drop i row) (drop i literals) ≡ []
asked-end given [] literals zero past = refl
asked-end given [] literals (suc i) past = refl
asked-end given (x ∷ row) [] zero past = refl
asked-end given (x ∷ row) [] (suc i) past = none given (drop i row) i
  where
    none : (given : ℕ) (row : List Mark) (i : ℕ) → asked given row [] ≡ []
    none given [] i = refl
    none given (x ∷ row) i = refl
asked-end given (x ∷ row) (l ∷ literals) zero past = absurd (omega arith)
asked-end given (x ∷ row) (l ∷ literals) (suc i) past = asked-end given row literals i (omega arith)

none-stays : (given : ℕ) (literals : List ℤ) → fold (with_literal given) None literals ≡ None
none-stays given [] = refl
none-stays given (l ∷ literals) = none-stays given literals

-- a literal that cannot be true with the others
pub left-none : (given : ℕ) (left : List ℤ) (l : ℤ) (rest all : List ℤ) (whole : Option (List ℤ)) → all ≡ l ∷ rest → None ≡ with_literal given (Some left) l →
    fold (with_literal given) (Some left) all ≡ whole → None ≡ whole
left-none given left l rest all whole next fails before =
    sym (none-stays given rest) ∙ ap (λ found. fold (with_literal given) found rest) fails ∙ ap (fold (with_literal given) (Some left)) (sym next) ∙ before

-- one that can
pub left-some : (given : ℕ) (left new : List ℤ) (l : ℤ) (rest all : List ℤ) (whole : Option (List ℤ)) → all ≡ l ∷ rest → Some new ≡ with_literal given (Some left) l →
    fold (with_literal given) (Some left) all ≡ whole → fold (with_literal given) (Some new) rest ≡ whole
left-some given left new l rest all whole next fits before =
    ap (λ found. fold (with_literal given) found rest) fits ∙ ap (fold (with_literal given) (Some left)) (sym next) ∙ before

pub left-done : (given : ℕ) (left all : List ℤ) (whole : Option (List ℤ)) → all ≡ [] → fold (with_literal given) (Some left) all ≡ whole → Some left ≡ whole
left-done given left all whole none before = ap (fold (with_literal given) (Some left)) (sym none) ∙ before

-- what a join answers
pub join-true : (fits : Bool) (new : List ℤ) (other : Option (List ℤ)) → fits ≡ true → cond fits (Some new) None ≡ other → Some new ≡ other
join-true true new other e joins = joins
join-true false new other e joins = cc

pub join-false : (fits : Bool) (new : List ℤ) (other : Option (List ℤ)) → fits ≡ false → cond fits (Some new) None ≡ other → None ≡ other
join-false true new other e joins = cc
join-false false new other e joins = joins

-- literals at all, as a list of such and as a clause
pub within-all : (literals : List ℤ) → AreLiterals literals → IsTrue (clause_within MOST_VARIABLES literals)
within-all [] each = refl
within-all (l ∷ literals) each = and_from (is_literal l) (clause_within MOST_VARIABLES literals) (each 0 l (omega arith)) (within-all literals (λ k d below. each (suc k) d (omega arith)))

pub within-at : (n : ℕ) (literals : List ℤ) (i : ℕ) (d : ℤ) → i < length literals → IsTrue (clause_within n literals) → IsTrue (is_within n (get_or literals i d))
within-at n [] i d below within = absurd (omega arith)
within-at n (l ∷ literals) zero d below within = (and_parts (is_within n l) (clause_within n literals) within).0
within-at n (l ∷ literals) (suc i) d below within = within-at n literals i d (omega arith) (and_parts (is_within n l) (clause_within n literals) within).1

-- the one literal of the one cube is a literal
pub sole-literal : (n : ℕ) (cubes : List (List ℤ)) (l : ℤ) → Some l ≡ sole cubes → IsTrue (clauses_within n cubes) → IsTrue (is_within n l)
sole-literal n [] l is within = cc
sole-literal n ([] ∷ []) l is within = cc
sole-literal n ((x ∷ []) ∷ []) l is within =
    let same : l ≡ x = cc in
    subst (λ y. IsTrue (is_within n y)) (sym same) (and_parts (is_within n x) true (and_parts (clause_within n (x ∷ [])) true within).0).0
sole-literal n ((x ∷ y ∷ xs) ∷ []) l is within = cc
sole-literal n (c ∷ d ∷ cubes) l is within = cc

-- so it is of what is left of rows
pub told-within : (n given : ℕ) (rows : List (List Mark)) (literals : List ℤ) (found : List (List ℤ)) (l : ℤ) → given < n → IsTrue (clause_within n literals) → found ≡ cubes given rows literals → Some l ≡ sole found →
    IsTrue (is_within n l)
told-within n given rows literals found l few within is told = sole-literal n (cubes given rows literals) l (told ∙ ap sole is) (cubes-within n given rows literals few within)

pub told-literal : (given : ℕ) (rows : List (List Mark)) (literals : List ℤ) (found : List (List ℤ)) (l : ℤ) → given < MOST_VARIABLES → AreLiterals literals → found ≡ cubes given rows literals →
    Some l ≡ sole found → IsTrue (is_literal l)
told-literal given rows literals found l few each is told = told-within MOST_VARIABLES given rows literals found l few (within-all literals each) is told

-- literals of a making, as a clause
pub within-of : (making : Making) (literals : List ℤ) → AreOf making literals → IsTrue (clause_within (variables_of making.given making.nodes) literals)
within-of making [] of = refl
within-of making (l ∷ literals) of =
    and_from (is_within (variables_of making.given making.nodes) l) (clause_within (variables_of making.given making.nodes) literals) (of 0 l (omega arith)).within (within-of making literals (λ k d below. of (suc k) d (omega arith)))

pub get-is : {X : Type 0} (xs : List X) (i : ℕ) (x d : X) → slice_get xs i ≡ Some x → get_or xs i d ≡ x
get-is [] i x d found = cc
get-is (y ∷ xs) zero x d found = cc
get-is (y ∷ xs) (suc i) x d found = get-is xs i x d found
