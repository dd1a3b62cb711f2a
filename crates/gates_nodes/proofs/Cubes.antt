-- What is left of the literals that rows ask.
use Rattle.std.proofs.Common.{◌≡◌, inl, inr, ℕ, suc, ◌<◌, ◌≤◌, ℤ, neg_ℤ, Bool, true, false, not, ◌&&◌, ◌||◌, List, [], ◌∷◌, ◌++◌, map, fold, Option, None, Some, refl, sym, ap, ◌∙◌}
use Rattle.std.specs.Bool.{IsTrue}
use Rattle.std.specs.List.{cons_option, list_all, list_any}
use Rattle.std.specs.Ordering.{int_eq}
use Rattle.std.proofs.lemmas.Bool.{and_from, and_parts, cond_both, or_cases}
use Rattle.std.proofs.lemmas.Bool.Decides.{Decides-int_eq}
use Rattle.std.proofs.lemmas.List.Folds.{list_all-append}
use Rattle.clauses.specs.Literals.{clause_within, clauses_within, is_within, variable_of}
use Rattle.clauses.specs.Models.{Assignment, is_true}
use Rattle.gates_theory.proofs.Literals.{not_not, true-neg}
use Rattle.gates_theory.proofs.Within.{negated_within}
use Rattle.netlist.specs.Valuations.{fits_mark, fits_row}
use Rattle.netlist.specs.declared.rows.Mark.{Mark}
use Rattle.netlist.specs.declared.rows.Mark.TheVariants as marks
use Rattle.gates_nodes.specs.Nodes.{fits_some, no, yes}
use Rattle.gates_nodes.specs.Tables.{asked, cubes, has_literal, left_of, marked, with_literal}
use Rattle.gates_nodes.proofs.Folds.{no-false}
use Rattle.gates_nodes.proofs.Literals.{absorbed, and_assoc, and_true, clashing, first_within, more_within, positive, rest_within, yes-within}

-- literals that are to be true together, if they can be
abbrev pub held : Assignment → Option (List ℤ) → Bool
held v None = false
held v (Some literals) = list_all (is_true v) literals

abbrev pub cube_within : ℕ → Option (List ℤ) → Bool
cube_within n None = true
cube_within n (Some literals) = clause_within n literals

has-true : (v : Assignment) (literals : List ℤ) (l : ℤ) → has_literal literals l ≡ true → list_all (is_true v) literals ≡ true → is_true v l ≡ true
has-true v [] l has all = cc
has-true v (x ∷ xs) l has all =
    let parts = and_parts (is_true v x) (list_all (is_true v) xs) all in
    elim (or_cases (int_eq l x) (has_literal xs l) has) [
      | inl here ↦ ap (is_true v) ((Decides-int_eq l x).0 here) ∙ parts.0
      | inr later ↦ has-true v xs l later parts.1
    ]

false_from : (v : Assignment) (l : ℤ) → 0 < variable_of l → is_true v (neg_ℤ l) ≡ true → is_true v l ≡ false
false_from v l some opposite = sym (not_not (is_true v l)) ∙ ap not (sym (true-neg v l some) ∙ opposite)

with-value : (v : Assignment) (given : ℕ) (found : Option (List ℤ)) (l : ℤ) → v (suc given) ≡ true → 0 < variable_of l →
    held v (with_literal given found l) ≡ (held v found && is_true v l)
with-value v given None l e some = refl
with-value v given (Some ls) l e some =
    let all = list_all (is_true v) ls in
    let P : Option (List ℤ) → Type 0 = λ o. held v o ≡ (all && is_true v l) in
    cond_both (int_eq l (yes given) || has_literal ls l) (Some ls) _ P
    (λ here. absorbed all (is_true v l) (λ holds. elim (or_cases (int_eq l (yes given)) (has_literal ls l) here) [
      | inl constant ↦ ap (is_true v) ((Decides-int_eq l (yes given)).0 constant) ∙ e
      | inr among ↦ has-true v ls l among holds
    ]))
    (λ _. cond_both (int_eq l (no given) || has_literal ls (neg_ℤ l)) None (Some (ls ++ l ∷ [])) P
    (λ clash. clashing all (is_true v l) (λ holds. elim (or_cases (int_eq l (no given)) (has_literal ls (neg_ℤ l)) clash) [
      | inl constant ↦ ap (is_true v) ((Decides-int_eq l (no given)).0 constant) ∙ no-false v given e
      | inr among ↦ false_from v l some (has-true v ls (neg_ℤ l) among holds)
    ]))
    (λ _. list_all-append (is_true v) ls (l ∷ []) ∙ ap (λ b. all && b) (and_true (is_true v l))))

left-value : (v : Assignment) (given n : ℕ) (found : Option (List ℤ)) (literals : List ℤ) → v (suc given) ≡ true → IsTrue (clause_within n literals) →
    held v (fold (with_literal given) found literals) ≡ (held v found && list_all (is_true v) literals)
left-value v given n found [] e within = sym (and_true (held v found))
left-value v given n found (l ∷ literals) e within =
    left-value v given n (with_literal given found l) literals e (rest_within n l literals within)
    ∙ ap (λ b. b && list_all (is_true v) literals) (with-value v given found l e (positive n l (first_within n l literals within)))
    ∙ and_assoc (held v found) (is_true v l) (list_all (is_true v) literals)

-- what a row asks
marked-value : (v : Assignment) (given : ℕ) (mark : Mark) (l : ℤ) → v (suc given) ≡ true → 0 < variable_of l → is_true v (marked given mark l) ≡ fits_mark mark (is_true v l)
marked-value v given marks.Zero l e some = true-neg v l some
marked-value v given marks.One l e some = refl
marked-value v given marks.Any l e some = e

pub asked-value : (v : Assignment) (given n : ℕ) (row : List Mark) (literals : List ℤ) → v (suc given) ≡ true → IsTrue (clause_within n literals) →
    list_all (is_true v) (asked given row literals) ≡ fits_row row (map (is_true v) literals)
asked-value v given n [] literals e within = refl
asked-value v given n (mark ∷ row) [] e within = refl
asked-value v given n (mark ∷ row) (l ∷ literals) e within =
    rw (marked-value v given mark l e (positive n l (first_within n l literals within)), asked-value v given n row literals e (rest_within n l literals within)) refl

marked-within : (n given : ℕ) (mark : Mark) (l : ℤ) → suc given ≤ n → IsTrue (is_within n l) → IsTrue (is_within n (marked given mark l))
marked-within n given marks.Zero l few within = negated_within n l within
marked-within n given marks.One l few within = within
marked-within n given marks.Any l few within = yes-within n given few

pub asked-within : (n given : ℕ) (row : List Mark) (literals : List ℤ) → suc given ≤ n → IsTrue (clause_within n literals) → IsTrue (clause_within n (asked given row literals))
asked-within n given [] literals few within = refl
asked-within n given (mark ∷ row) [] few within = refl
asked-within n given (mark ∷ row) (l ∷ literals) few within =
    more_within n (marked given mark l) (asked given row literals) (marked-within n given mark l few (first_within n l literals within))
    (asked-within n given row literals few (rest_within n l literals within))

with-within : (n given : ℕ) (found : Option (List ℤ)) (l : ℤ) → cube_within n found ≡ true → IsTrue (is_within n l) → cube_within n (with_literal given found l) ≡ true
with-within n given None l old within = refl
with-within n given (Some ls) l old within =
    let P : Option (List ℤ) → Type 0 = λ o. cube_within n o ≡ true in
    cond_both (int_eq l (yes given) || has_literal ls l) (Some ls) _ P (λ _. old)
    (λ _. cond_both (int_eq l (no given) || has_literal ls (neg_ℤ l)) None (Some (ls ++ l ∷ [])) P (λ _. refl)
    (λ _. list_all-append (is_within n) ls (l ∷ []) ∙ and_from (clause_within n ls) (clause_within n (l ∷ [])) old (more_within n l [] within refl)))

left-within : (n given : ℕ) (found : Option (List ℤ)) (literals : List ℤ) → cube_within n found ≡ true → IsTrue (clause_within n literals) →
    cube_within n (fold (with_literal given) found literals) ≡ true
left-within n given found [] old within = old
left-within n given found (l ∷ literals) old within =
    left-within n given (with_literal given found l) literals (with-within n given found l old (first_within n l literals within)) (rest_within n l literals within)

-- the cubes of rows
cons-any : (v : Assignment) (o : Option (List ℤ)) (rest : List (List ℤ)) → list_any (list_all (is_true v)) (cons_option o rest) ≡ (held v o || list_any (list_all (is_true v)) rest)
cons-any v None rest = refl
cons-any v (Some cube) rest = refl

cons-within : (n : ℕ) (o : Option (List ℤ)) (rest : List (List ℤ)) → cube_within n o ≡ true → IsTrue (clauses_within n rest) → IsTrue (clauses_within n (cons_option o rest))
cons-within n None rest here others = others
cons-within n (Some cube) rest here others = and_from (clause_within n cube) (clauses_within n rest) here others

pub cubes-value : (v : Assignment) (given n : ℕ) (rows : List (List Mark)) (literals : List ℤ) → v (suc given) ≡ true → suc given ≤ n → IsTrue (clause_within n literals) →
    list_any (list_all (is_true v)) (cubes given rows literals) ≡ fits_some rows (map (is_true v) literals)
cubes-value v given n [] literals e few within = refl
cubes-value v given n (row ∷ rows) literals e few within =
    let here = left_of given (asked given row literals) in
    let rest = cubes given rows literals in
    let value : held v here ≡ fits_row row (map (is_true v) literals) =
    left-value v given n (Some []) (asked given row literals) e (asked-within n given row literals few within) ∙ asked-value v given n row literals e within in
    cons-any v here rest ∙ rw (value, cubes-value v given n rows literals e few within) refl

pub cubes-within : (n given : ℕ) (rows : List (List Mark)) (literals : List ℤ) → suc given ≤ n → IsTrue (clause_within n literals) → IsTrue (clauses_within n (cubes given rows literals))
cubes-within n given [] literals few within = refl
cubes-within n given (row ∷ rows) literals few within =
    cons-within n (left_of given (asked given row literals)) (cubes given rows literals)
    (left-within n given (Some []) (asked given row literals) refl (asked-within n given row literals few within)) (cubes-within n given rows literals few within)
