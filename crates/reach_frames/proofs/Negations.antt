-- Negations: a clause says that a state is not in its cube.
use Rattle.std.proofs.Common.{◌≡◌, ℕ, zero, suc, ◌<◌, ℤ, pos, negsuc, neg_ℤ, Bool, true, false, not, ◌&&◌, ◌||◌, List, [], ◌∷◌, length, get_or, refl, sym, ap, ◌∙◌, arith}
use Rattle.std.specs.List.{list_all, Contains}
use Rattle.std.proofs.lemmas.Bool.{and_parts, and_from, false≢true}
use Rattle.std.proofs.lemmas.List.{length-map, get_or-map}
use Rattle.clauses.specs.Literals.{is_within, clause_within}
use Rattle.clauses.specs.Models.{Assignment, is_true, meets}
use Rattle.reach_frames.specs.Cubes.{IsCube, negated}

not_not : (b : Bool) → not (not b) ≡ b
not_not true = refl
not_not false = refl

not_and : (a b : Bool) → (not a || not b) ≡ not (a && b)
not_and true b = refl
not_and false b = refl

not_or : (a b : Bool) → (not a && not b) ≡ not (a || b)
not_or true b = refl
not_or false b = refl

-- the negation of a literal of a variable is true where the literal is false
pub negation_is : (values : Assignment) (width : ℕ) (literal : ℤ) → is_within width literal ≡ true → is_true values (neg_ℤ literal) ≡ not (is_true values literal)
negation_is values width (pos zero) within = absurd (false≢true within)
negation_is values width (pos (suc n)) within = refl
negation_is values width (negsuc n) within = sym (not_not (values (suc n)))

pub negation_within : (width : ℕ) (literal : ℤ) → is_within width literal ≡ is_within width (neg_ℤ literal)
negation_within width (pos zero) = refl
negation_within width (pos (suc n)) = refl
negation_within width (negsuc n) = refl

pub negation_twice : (literal : ℤ) → neg_ℤ (neg_ℤ literal) ≡ literal
negation_twice (pos zero) = refl
negation_twice (pos (suc n)) = refl
negation_twice (negsuc n) = refl

pub negated_within : (width : ℕ) (literals : List ℤ) → clause_within width literals ≡ true → clause_within width (negated literals) ≡ true
negated_within width [] within = refl
negated_within width (literal ∷ literals) within =
    let parts = and_parts (is_within width literal) (clause_within width literals) within in
    and_from _ _ (sym (negation_within width literal) ∙ parts.0) (negated_within width literals parts.1)

pub negated_twice : (literals : List ℤ) → negated (negated literals) ≡ literals
negated_twice [] = refl
negated_twice (literal ∷ literals) = ap (λ l. l ∷ negated (negated literals)) (negation_twice literal) ∙ ap (λ ls. literal ∷ ls) (negated_twice literals)

-- a clause is met outside its cube
pub meets_negated : (values : Assignment) (width : ℕ) (cube : List ℤ) → clause_within width cube ≡ true → meets values (negated cube) ≡ not (list_all (is_true values) cube)
meets_negated values width [] within = refl
meets_negated values width (literal ∷ cube) within =
    let parts = and_parts (is_within width literal) (clause_within width cube) within in
    ap (λ b. b || meets values (negated cube)) (negation_is values width literal parts.0)
    ∙ ap (λ b. not (is_true values literal) || b) (meets_negated values width cube parts.1)
    ∙ not_and (is_true values literal) (list_all (is_true values) cube)

-- the cube of a clause is where the clause is missed
pub in_negated : (values : Assignment) (width : ℕ) (clause : List ℤ) → clause_within width clause ≡ true → list_all (is_true values) (negated clause) ≡ not (meets values clause)
in_negated values width [] within = refl
in_negated values width (literal ∷ clause) within =
    let parts = and_parts (is_within width literal) (clause_within width clause) within in
    ap (λ b. b && list_all (is_true values) (negated clause)) (negation_is values width literal parts.0)
    ∙ ap (λ b. not (is_true values literal) && b) (in_negated values width clause parts.1)
    ∙ not_or (is_true values literal) (meets values clause)

contains_negated : (literals : List ℤ) (literal : ℤ) → Contains (negated literals) literal → Contains literals (neg_ℤ literal)
contains_negated literals literal member =
    let place = member.0 in
    let within : place < length literals = omega (arith, member.1, length-map literals neg_ℤ) in (
      place,
      within,
      sym (negation_twice (get_or literals place (neg_ℤ literal)))
          ∙ ap neg_ℤ (sym (get_or-map neg_ℤ literals place (neg_ℤ literal) literal within) ∙ member.2),
    )

pub negated-IsCube : (width : ℕ) (cube : List ℤ) → IsCube width cube → IsCube width (negated cube)
negated-IsCube width cube is = record {
  within = negated_within width cube is.within;
  once = λ i j d before end same.
      let later : j < length cube = omega (arith, end, length-map cube neg_ℤ) in
      let earlier : i < length cube = omega arith in
      is.once i j d before later (
      sym (negation_twice (get_or cube i d))
      ∙ ap neg_ℤ (sym (get_or-map neg_ℤ cube i d d earlier) ∙ same ∙ get_or-map neg_ℤ cube j d d later)
      ∙ negation_twice (get_or cube j d));
  apart = λ literal here there. is.apart (neg_ℤ literal) (contains_negated cube literal here) (contains_negated cube (neg_ℤ literal) there);
}
