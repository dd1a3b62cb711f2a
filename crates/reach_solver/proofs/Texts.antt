-- Different clauses have different texts.
use Rattle.std.proofs.Common.{◌≡◌, refl, sym, ap, ◌∙◌, ℕ, suc, ◌+◌, ◌≤◌, ℤ, pos, negsuc, List, [], ◌∷◌, ◌++◌, length, take, drop, get_or, append_assoc, append-nil, arith}
use Rattle.std.specs.Prelude.{IsTrue}
use Rattle.std.proofs.lemmas.List.{drop-append-le, drop_all, take_all, take-append-drop, take-append-le}
use Rattle.clauses.specs.Literals.{clauses_within}
use Rattle.reach_solver.specs.Solvers.{selected, IsOver, Selecting}
use Rattle.reach_solver.specs.Texts.{text_of}

-- with one clause more at the end
pub text-more : (clauses : List (List ℤ)) (clause : List ℤ)
    → text_of (clauses ++ clause ∷ []) ≡ text_of clauses ++ pos (length clause) ∷ clause
text-more [] clause = ap (λ (l : List ℤ). pos (length clause) ∷ l) (append-nil clause)
text-more (first ∷ clauses) clause =
    ap (λ (l : List ℤ). pos (length first) ∷ first ++ l) (text-more clauses clause)
    ∙ ap (λ (l : List ℤ). pos (length first) ∷ l) (sym (append_assoc first (text_of clauses) (pos (length clause) ∷ clause)))

abbrev size-in : ℤ → ℕ
size-in (pos n) = n
size-in (negsuc n) = 0

-- lists that begin with as many numbers each are equal by parts
front-same : (x y s t : List ℤ) → length x ≡ length y → x ++ s ≡ y ++ t → x ≡ y
front-same x y s t n e =
    sym (take-append-le (length x) x s (omega arith) ∙ take_all (length x) x (omega arith))
    ∙ ap (take (length x)) e
    ∙ take-append-le (length x) y t (omega (arith, n)) ∙ take_all (length x) y (omega (arith, n))

back-same : (x y s t : List ℤ) → length x ≡ length y → x ++ s ≡ y ++ t → s ≡ t
back-same [] [] s t n e = e
back-same [] (b ∷ y) s t n e = absurd (omega (arith, n))
back-same (a ∷ x) [] s t n e = absurd (omega (arith, n))
back-same (a ∷ x) (b ∷ y) s t n e = back-same x y s t (omega (arith, n)) (ap (drop 1) e)

pub text-same : (xs ys : List (List ℤ)) → text_of xs ≡ text_of ys → xs ≡ ys
text-same [] [] e = refl
text-same [] (y ∷ ys) e = absurd (omega (arith, ap (λ (l : List ℤ). length l) e))
text-same (x ∷ xs) [] e = absurd (omega (arith, ap (λ (l : List ℤ). length l) e))
text-same (x ∷ xs) (y ∷ ys) e =
    let size : length x ≡ length y = ap (λ (l : List ℤ). size-in (get_or l 0 (pos 0))) e in
    let rest : x ++ text_of xs ≡ y ++ text_of ys = ap (drop 1) e in
    ap (λ (c : List ℤ). c ∷ xs) (front-same x y (text_of xs) (text_of ys) size rest)
    ∙ ap (λ (cs : List (List ℤ)). y ∷ cs) (text-same xs ys (back-same x y (text_of xs) (text_of ys) size rest))

-- a solver whose text is that of a formula is over it
pub over-text : (solver : Selecting) (count variables : ℕ) (formula : List (List ℤ)) → solver.variables ≡ variables
    → IsTrue (clauses_within variables formula) → text_of (take count solver.clauses) ≡ text_of formula
    → drop count solver.clauses ≡ selected solver.variables solver.chosen → IsOver solver variables formula
over-text solver count variables formula same within text rest = record {
  variables_are = same;
  within = within;
  clauses_are = sym (take-append-drop count solver.clauses)
      ∙ ap (λ (cs : List (List ℤ)). cs ++ drop count solver.clauses) (text-same (take count solver.clauses) formula text)
      ∙ ap (λ (cs : List (List ℤ)). formula ++ cs) rest;
}
