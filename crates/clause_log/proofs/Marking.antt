-- A mark for each literal, by its code.
use Rattle.std.proofs.Common.{◌≡◌, ℕ, zero, suc, ◌+◌, ◌-◌, ◌*◌, ◌/◌, ◌%◌, ◌<◌, ◌≤◌, ◌^◌, ℤ, pos, negsuc, Bool, true, false, ltb, leb, cond, eqb, List, [], ◌∷◌, ◌++◌, length, get_or, set, inl, inr, ◌↔◌, refl, sym, ap, ◌∙◌, subst, arith}
use Rattle.std.specs.Bool.{IsTrue}
use Rattle.std.specs.List.{Contains}
use Rattle.std.proofs.lemmas.Bool.{and_parts, and_from, ltb-true, leb-true, cases_eq, false≢true}
use Rattle.std.proofs.lemmas.List.{get_or-set_same, get_or-set_other}
use Rattle.std.proofs.lemmas.List.Elements.{Contains-push, Contains-append_left, Contains-push_cases}
use Rattle.std.proofs.lemmas.Int.{to_z-of_z}
use mir.Syntax.{w32}
use mir.Val.{SFits, of_z, to_z}
use Rattle.std.proofs.lemmas.List.Folds.{list_all-append}
use Rattle.clauses.specs.Literals.{variable_of, is_within, clause_within}
use Rattle.clause_log.specs.Codes.{code_of, literal_of, clause_of_codes}
use Rattle.clauses.specs.declared.flat.TheConstants.{MOST_VARIABLES}

-- the variable of a literal is one of the first so many
pub within_parts : (variables : ℕ) (literal : ℤ) → is_within variables literal ≡ true → (0 < variable_of literal) × (variable_of literal ≤ variables)
within_parts variables literal within =
    let parts = and_parts (ltb 0 (variable_of literal)) (leb (variable_of literal) variables) within in
    (ltb-true 0 (variable_of literal) parts.0, leb-true (variable_of literal) variables parts.1)

-- its code has a mark
pub code_below : (variables : ℕ) (literal : ℤ) → is_within variables literal ≡ true → code_of literal < 2 * variables
code_below variables (pos n) within = omega (arith, within_parts variables (pos n) within)
code_below variables (negsuc n) within = omega (arith, within_parts variables (negsuc n) within)

-- the literal of an even code and of an odd one
literal_even : (code before : ℕ) → code ≡ 2 * before → literal_of code ≡ pos (suc before)
literal_even code before is =
    let rest : code % 2 ≡ 0 = omega arith in
    let half : code / 2 ≡ before = omega arith in
    rw (rest, half)

literal_odd : (code before : ℕ) → code ≡ 2 * before + 1 → literal_of code ≡ negsuc before
literal_odd code before is =
    let rest : code % 2 ≡ 1 = omega arith in
    let half : code / 2 ≡ before = omega arith in
    rw (rest, half)

-- the literal of a code
pub literal_of-code_of : (variables : ℕ) (literal : ℤ) → is_within variables literal ≡ true → literal_of (code_of literal) ≡ literal
literal_of-code_of variables (pos zero) within = absurd (false≢true within)
literal_of-code_of variables (pos (suc n)) within = literal_even (2 * (suc n - 1)) n (omega arith)
literal_of-code_of variables (negsuc n) within = literal_odd (2 * n + 1) n refl

-- two literals with one code are one
pub code_once : (variables : ℕ) (first second : ℤ) → is_within variables first ≡ true → is_within variables second ≡ true → code_of first ≡ code_of second → first ≡ second
code_once variables first second within also same =
    sym (literal_of-code_of variables first within) ∙ ap literal_of same ∙ literal_of-code_of variables second also

-- one mark more, for a literal more
pub marks_insert : (variables : ℕ) (marks : List Bool) (members : List ℤ) (new : ℤ) → length marks ≡ 2 * variables → is_within variables new ≡ true
    → ((literal : ℤ) → is_within variables literal ≡ true → (get_or marks (code_of literal) false ≡ true) ↔ Contains members literal)
    → (literal : ℤ) → is_within variables literal ≡ true → (get_or (set marks (code_of new) true) (code_of literal) false ≡ true) ↔ Contains (members ++ new ∷ []) literal
marks_insert variables marks members new size in_range marked literal within =
    elim (cases_eq (code_of literal) (code_of new)) [
      | inl same ↦
          let is = code_once variables literal new within in_range same in (
            λ _. subst (λ (l : ℤ). Contains (members ++ new ∷ []) l) (sym is) (Contains-push members new),
            λ _. rw same (get_or-set_same marks (code_of new) true false (rw size (code_below variables new in_range))),
          )
      | inr differs ↦
          let kept = get_or-set_other marks (code_of new) (code_of literal) true false differs in (
            λ on. Contains-append_left members (new ∷ []) literal ((marked literal within).0 (sym kept ∙ on)),
            λ member. kept ∙ elim (Contains-push_cases members new literal member) [
              | inl old ↦ (marked literal within).1 old
              | inr is ↦ absurd (differs (ap code_of (sym is)))
            ],
          )
    ]

-- one mark less, for a literal that stood last
pub marks_pop : (variables : ℕ) (marks : List Bool) (members : List ℤ) (gone : ℤ) → length marks ≡ 2 * variables → is_within variables gone ≡ true
    → ((literal : ℤ) → is_within variables literal ≡ true → get_or marks (code_of literal) false ≡ true → Contains (members ++ gone ∷ []) literal)
    → (literal : ℤ) → is_within variables literal ≡ true → get_or (set marks (code_of gone) false) (code_of literal) false ≡ true → Contains members literal
marks_pop variables marks members gone size in_range marked literal within on =
    elim (cases_eq (code_of literal) (code_of gone)) [
      | inl same ↦ absurd (false≢true (sym (rw same (get_or-set_same marks (code_of gone) false false (rw size (code_below variables gone in_range)))) ∙ on))
      | inr differs ↦
          let kept = get_or-set_other marks (code_of gone) (code_of literal) false false differs in
          elim (Contains-push_cases members gone literal (marked literal within (sym kept ∙ on))) [
            | inl old ↦ old
            | inr is ↦ absurd (differs (ap code_of (sym is)))
          ]
    ]

-- the members but the last, and the last, are within the variables
pub within-push : (variables : ℕ) (members : List ℤ) (new : ℤ) → IsTrue (clause_within variables members) → is_within variables new ≡ true → IsTrue (clause_within variables (members ++ new ∷ []))
within-push variables members new all here =
    list_all-append (is_within variables) members (new ∷ []) ∙ and_from (clause_within variables members) (clause_within variables (new ∷ [])) all (and_from (is_within variables new) true here refl)

pub within-pop : (variables : ℕ) (members : List ℤ) (last : ℤ) → IsTrue (clause_within variables (members ++ last ∷ [])) → IsTrue (clause_within variables members) × (is_within variables last ≡ true)
within-pop variables members last all =
    let parts = and_parts (clause_within variables members) (clause_within variables (last ∷ [])) (sym (list_all-append (is_within variables) members (last ∷ [])) ∙ all) in
    (parts.0, (and_parts (is_within variables last) true parts.1).0)

-- a number of 32 bits that has the bits of another is that one
pub same_bits : (first second : ℤ) → SFits w32 first → SFits w32 second → of_z w32 first ≡ of_z w32 second → first ≡ second
same_bits first second fits also same = sym (to_z-of_z w32 first fits) ∙ ap (to_z w32) same ∙ to_z-of_z w32 second also

-- a code of a clause within the variables is small, and its literal within them
pub code_within : (variables : ℕ) (codes : List ℕ) (place : ℕ) → IsTrue (clause_within variables (clause_of_codes codes)) → place < length codes → is_within variables (literal_of (get_or codes place 0)) ≡ true
code_within variables [] place all within = absurd (omega arith)
code_within variables (code ∷ codes) zero all within = (and_parts (is_within variables (literal_of code)) (clause_within variables (clause_of_codes codes)) all).0
code_within variables (code ∷ codes) (suc place) all within =
    code_within variables codes place (and_parts (is_within variables (literal_of code)) (clause_within variables (clause_of_codes codes)) all).1 (omega arith)

small_even : (variables code : ℕ) (rest : Bool) → eqb (code % 2) 0 ≡ rest → is_within variables (cond rest (pos (suc (code / 2))) (negsuc (code / 2))) ≡ true → code / 2 < variables
small_even variables code true is within = omega (arith, within_parts variables (pos (suc (code / 2))) within)
small_even variables code false is within = omega (arith, within_parts variables (negsuc (code / 2)) within)

pub code_small : (variables : ℕ) (codes : List ℕ) (place : ℕ) → variables ≤ MOST_VARIABLES → IsTrue (clause_within variables (clause_of_codes codes)) → place < length codes → get_or codes place 0 < 2 ^ 32 - 2
code_small variables codes place few all within =
    let half = small_even variables (get_or codes place 0) (eqb (get_or codes place 0 % 2) 0) refl (code_within variables codes place all within) in
    omega arith
