-- Selectors of clauses, and what it says that literals with them exclude each other.
use Rattle.std.proofs.Common.{◌≡◌, refl, sym, ap, ◌∙◌, subst, ℕ, zero, suc, true, ◌+◌, ◌<◌, ◌≤◌, ℤ, pos, negsuc, List, [], ◌∷◌, ◌++◌, length, drop, append_assoc, append-nil, arith}
use Rattle.std.specs.Prelude.{IsTrue, slice_get, Some}
use Rattle.std.specs.List.{All, Contains}
use Rattle.std.proofs.Math.ListN.{get_or-append}
use Rattle.std.proofs.Math.Seq.{get_or-append_seam}
use Rattle.std.proofs.lemmas.List.{length-append}
use Rattle.std.proofs.lemmas.List.Elements.{All-append, All-cons, All-contains, All-head, All-nil, All-push, All-tail, All-weaker}
use Rattle.std.proofs.lemmas.Bool.{and_from, and_parts}
use Rattle.std.proofs.lemmas.List.Folds.{list_all-append}
use Rattle.std.proofs.lemmas.Option.{get_or_from_slice_get, slice_get_within, slice_get-get_or}
use Rattle.cdcl_incremental.specs.Questions.{AreTrue}
use Rattle.clauses.specs.Literals.{clause_within, clauses_within, is_within}
use Rattle.clauses.specs.Models.{Assignment, is_true, meets, IsModel}
use Rattle.gates_theory.proofs.Agreement.{same-literal}
use Rattle.gates_theory.proofs.Within.{wider}
use Rattle.reach_solver.specs.Solvers.{selected, AreSelected, Grows, IsMore, IsOver, IsSelected, Selecting}
use Rattle.reach_solver.proofs.Extending.{all-met, at, extended, met-by, same}

-- with one clause more at the end
pub selected-more : (before : ℕ) (clauses : List (List ℤ)) (clause : List ℤ)
    → selected before (clauses ++ clause ∷ [])
    ≡ selected before clauses ++ (clause ++ negsuc (before + length clauses) ∷ []) ∷ []
selected-more before [] clause = let e : before + 0 ≡ before = omega arith in rw e
selected-more before (first ∷ clauses) clause =
    let e : suc before + length clauses ≡ before + suc (length clauses) = omega arith in
    ap (λ (cs : List (List ℤ)). (first ++ negsuc before ∷ []) ∷ cs) (subst (λ (n : ℕ). selected (suc before) (clauses ++ clause ∷ [])
    ≡ selected (suc before) clauses ++ (clause ++ negsuc n ∷ []) ∷ []) e (selected-more (suc before) clauses clause))

pub nothing-more : (solver : Selecting) → Grows solver solver
nothing-more solver = record {
  variables = refl;
  more = [];
  chosen = sym (append-nil solver.chosen);
  over = λ variables formula over. over;
}

pub grows-then : (a b c : Selecting) → Grows a b → Grows b c → Grows a c
grows-then a b c first second = record {
  variables = second.variables ∙ first.variables;
  more = first.more ++ second.more;
  chosen = second.chosen ∙ ap (λ (cs : List (List ℤ)). cs ++ second.more) first.chosen ∙ append_assoc a.chosen first.more second.more;
  over = λ variables formula over. second.over variables formula (first.over variables formula over);
}

-- a clause with the selector behind so many variables is within those that are open
pub guard-within : (few more : ℕ) (clause : List ℤ) (before : ℕ) → IsTrue (clause_within few clause) → few ≤ more → before < more
    → IsTrue (clause_within more (clause ++ negsuc before ∷ []))
guard-within few more clause before within order below =
    let is : IsTrue (is_within more (negsuc before)) = grind arith in
    list_all-append (is_within more) clause (negsuc before ∷ [])
    ∙ and_from (clause_within more clause) (clause_within more (negsuc before ∷ []))
    (wider few more order clause within)
    (and_from (is_within more (negsuc before)) true is refl)

pub within-more : (variables : ℕ) (clauses : List (List ℤ)) (clause : List ℤ) → IsTrue (clauses_within variables clauses)
    → IsTrue (clause_within variables clause) → IsTrue (clauses_within variables (clauses ++ clause ∷ []))
within-more variables clauses clause each also =
    list_all-append (clause_within variables) clauses (clause ∷ [])
    ∙ and_from (clauses_within variables clauses) (clauses_within variables (clause ∷ [])) each
    (and_from (clause_within variables clause) true also refl)

pub drop-more : (count : ℕ) (xs : List (List ℤ)) (x : List ℤ) → count ≤ length xs
    → drop count (xs ++ x ∷ []) ≡ drop count xs ++ x ∷ []
drop-more zero xs x within = refl
drop-more (suc count) [] x within = absurd (omega arith)
drop-more (suc count) (y ∷ xs) x within = drop-more count xs x (omega arith)

-- the last one stands behind all others
pub last-is : (clauses more : List (List ℤ)) (clause : List ℤ) → more ≡ clauses ++ clause ∷ []
    → slice_get more (length clauses) ≡ Some clause
last-is clauses more clause e =
    ap (λ (cs : List (List ℤ)). slice_get cs (length clauses)) e
    ∙ slice_get-get_or (clauses ++ clause ∷ []) (length clauses) [] (omega (arith, length-append clauses (clause ∷ [])))
    ∙ ap Some (get_or-append_seam clauses clause [] [])

-- a clause that is chosen keeps its selector
pub chosen-still : (clauses more : List (List ℤ)) (place : ℕ) (clause : List ℤ) → slice_get clauses place ≡ Some clause
    → slice_get (clauses ++ more) place ≡ Some clause
chosen-still clauses more place clause has =
    let below = slice_get_within clauses place clause has in
    slice_get-get_or (clauses ++ more) place [] (omega (arith, below, length-append clauses more))
    ∙ ap Some (get_or-append clauses more [] place below ∙ get_or_from_slice_get clauses place clause [] has)

pub selected-still : (old new : Selecting) → Grows old new → (clause : List ℤ) (literal : ℤ) → IsSelected old clause literal
    → IsSelected new clause literal
selected-still old new grows clause literal is = record {
  place = is.place;
  has = ap (λ (cs : List (List ℤ)). slice_get cs is.place) grows.chosen
      ∙ chosen-still old.chosen grows.more is.place clause is.has;
  is = is.is ∙ ap (λ (n : ℕ). pos (suc (n + is.place))) (sym grows.variables);
}

pub are-still : (old new : Selecting) → Grows old new → (clauses : List (List ℤ)) (literals : List ℤ)
    → AreSelected old clauses literals → AreSelected new clauses literals
are-still old new grows clauses literals are =
    All-weaker (λ (l : ℤ). (clause : List ℤ) × Contains clauses clause × IsSelected old clause l)
    (λ (l : ℤ). (clause : List ℤ) × Contains clauses clause × IsSelected new clause l)
    (λ l found. (found.0, found.1, selected-still old new grows found.0 l found.2)) literals are

-- the next clause gets the next selector
pub chosen-grows : (old new : Selecting) (clause : List ℤ) → new.variables ≡ old.variables
    → new.chosen ≡ old.chosen ++ clause ∷ []
    → new.clauses ≡ old.clauses ++ (clause ++ negsuc (old.variables + length old.chosen) ∷ []) ∷ []
    → Grows old new
chosen-grows old new clause same more added = record {
  variables = same;
  more = clause ∷ [];
  chosen = more;
  over = λ variables formula over. record {
    variables_are = same ∙ over.variables_are;
    within = over.within;
    clauses_are = added
        ∙ ap (λ (cs : List (List ℤ)). cs ++ (clause ++ negsuc (old.variables + length old.chosen) ∷ []) ∷ []) over.clauses_are
        ∙ append_assoc formula (selected old.variables old.chosen) ((clause ++ negsuc (old.variables + length old.chosen) ∷ []) ∷ [])
        ∙ ap (λ (cs : List (List ℤ)). formula ++ cs) (sym (selected-more old.variables old.chosen clause))
        ∙ sym (rw (same, more));
  };
}

module _ (solver : Selecting) (within : IsTrue (clauses_within solver.variables solver.chosen)) (values : Assignment) where
  abbrev ext : Assignment
  ext = extended solver.variables solver.chosen values

  abbrev Holds : ℤ → Type 0
  Holds literal = IsTrue (is_true ext literal)

  selector-holds : (clauses : List (List ℤ)) → IsModel values clauses → (literal : ℤ)
      → (clause : List ℤ) × Contains clauses clause × IsSelected solver clause literal → Holds literal
  selector-holds clauses met literal found =
      let is = found.2 in
      ap (is_true ext) is.is ∙ at solver.variables solver.chosen values is.place
      ∙ ap (meets values) (get_or_from_slice_get solver.chosen is.place found.0 [] is.has)
      ∙ met-by values clauses found.0 met found.1

  literals-hold : (literals : List ℤ) → IsTrue (clause_within solver.variables literals) → AreTrue values literals
      → All Holds literals
  literals-hold [] also holds = All-nil Holds
  literals-hold (literal ∷ literals) also holds =
      let parts = and_parts (is_within solver.variables literal) (clause_within solver.variables literals) also in
      let True : ℤ → Type 0 = λ l. IsTrue (is_true values l) in
      All-cons Holds literal literals
      (same-literal solver.variables ext values (same solver.variables solver.chosen values) literal parts.0
      ∙ All-head True literal literals holds)
      (literals-hold literals parts.1 (All-tail True literal literals holds))

  -- literals with selectors of clauses are true together where the clauses are met and the literals are true
  pub all-hold : (clauses : List (List ℤ)) (selectors literals : List ℤ) → IsTrue (clause_within solver.variables literals)
      → AreSelected solver clauses selectors → IsModel values clauses → AreTrue values literals
      → All Holds (selectors ++ literals)
  all-hold clauses selectors literals also are met holds =
      All-append Holds selectors literals
      (All-weaker (λ (l : ℤ). (clause : List ℤ) × Contains clauses clause × IsSelected solver clause l) Holds
      (selector-holds clauses met) selectors are)
      (literals-hold literals also holds)

  pub excluded : (clauses : List (List ℤ)) (selectors literals core : List ℤ)
      → IsTrue (clause_within solver.variables literals) → AreSelected solver clauses selectors
      → All (Contains (selectors ++ literals)) core
      → ((others : Assignment) → IsModel others solver.clauses → AreTrue others core → ⊥)
      → (variables : ℕ) (formula : List (List ℤ)) → IsOver solver variables formula
      → IsModel values formula → IsModel values clauses → AreTrue values literals → ⊥
  excluded clauses selectors literals core also are among refutes variables formula over model met holds =
      let every = all-hold clauses selectors literals also are met holds in
      let base : IsTrue (clauses_within solver.variables formula) =
      subst (λ (n : ℕ). IsTrue (clauses_within n formula)) (sym over.variables_are) over.within in
      refutes ext
      (subst (IsModel ext) (sym over.clauses_are) (all-met solver.variables solver.chosen values formula base within model))
      (All-weaker (Contains (selectors ++ literals)) Holds
      (λ l has. All-contains Holds (selectors ++ literals) l every has) core among)

-- one more selector, after more clauses got theirs
pub are-more : (old new : Selecting) → Grows old new → (clauses : List (List ℤ)) (clause : List ℤ) → Contains clauses clause
    → (literals more : List ℤ) → AreSelected old clauses literals → IsMore new clause literals more
    → AreSelected new clauses more
are-more old new grows clauses clause has literals more are is =
    subst (AreSelected new clauses) (sym is.are)
    (All-push (λ (l : ℤ). (c : List ℤ) × Contains clauses c × IsSelected new c l) literals is.literal
    (are-still old new grows clauses literals are) (clause, has, is.is))

-- a selector is a variable that is open
pub selector-within : (solver : Selecting) (most : ℕ) → solver.variables + length solver.chosen ≤ most
    → (clause : List ℤ) (literal : ℤ) → IsSelected solver clause literal → IsTrue (is_within most literal)
selector-within solver most room clause literal is =
    let below = slice_get_within solver.chosen is.place clause is.has in
    let within : IsTrue (is_within most (pos (suc (solver.variables + is.place)))) = grind arith in
    subst (λ (l : ℤ). IsTrue (is_within most l)) (sym is.is) within

pub all-within : (solver : Selecting) (most : ℕ) → solver.variables + length solver.chosen ≤ most
    → (clauses : List (List ℤ)) (selectors : List ℤ) → AreSelected solver clauses selectors
    → IsTrue (clause_within most selectors)
all-within solver most room clauses [] are = refl
all-within solver most room clauses (selector ∷ selectors) are =
    let Is : ℤ → Type 0 = λ l. (clause : List ℤ) × Contains clauses clause × IsSelected solver clause l in
    let first = All-head Is selector selectors are in
    and_from (is_within most selector) (clause_within most selectors)
    (selector-within solver most room first.0 selector first.2)
    (all-within solver most room clauses selectors (All-tail Is selector selectors are))

pub assumed-within : (solver : Selecting) (most : ℕ) → solver.variables + length solver.chosen ≤ most
    → (clauses : List (List ℤ)) (selectors literals : List ℤ) → AreSelected solver clauses selectors
    → IsTrue (clause_within solver.variables literals) → IsTrue (clause_within most (selectors ++ literals))
assumed-within solver most room clauses selectors literals are within =
    list_all-append (is_within most) selectors literals
    ∙ and_from (clause_within most selectors) (clause_within most literals)
    (all-within solver most room clauses selectors are)
    (wider solver.variables most (omega (arith, room)) literals within)

-- literals within the variables of a solver stay within those of one that grew from it
pub within-inside : (inside new : Selecting) → inside ≡ new → (old : Selecting) → Grows old new → (literals : List ℤ)
    → IsTrue (clause_within old.variables literals) → IsTrue (clause_within inside.variables literals)
within-inside inside new is old grows literals within =
    subst (λ (n : ℕ). IsTrue (clause_within n literals))
    (sym grows.variables ∙ ap (λ (s : Selecting). s.variables) (sym is)) within
