-- A clause of which another is a part says no more than that one.
use Rattle.std.proofs.Common.{◌≡◌, ℕ, zero, suc, ◌<◌, ℤ, true, List, [], ◌∷◌, length, get_or, refl, ap, ◌∙◌, subst, inl, inr, arith}
use Rattle.std.specs.List.{Contains}
use Rattle.std.specs.Ordering.{int_eq}
use Rattle.std.proofs.lemmas.Bool.{and_parts, and_from, or_cases, or_left, or_right, false≢true}
use Rattle.std.proofs.lemmas.Bool.Decides.{Decides-int_eq}
use Rattle.clauses.specs.Models.{Assignment, is_true, meets}
use Rattle.clauses.proofs.Soundness.{member_from_any}
use Rattle.reach_frames.specs.Marks.{is_among, is_part}

among_member : (literals : List ℤ) (literal : ℤ) → is_among literals literal ≡ true → Contains literals literal
among_member literals literal among =
    let found = member_from_any (λ other. int_eq other literal) literals among in
    subst (Contains literals) ((Decides-int_eq found.0 literal).0 found.2) found.1

member_among : (literals : List ℤ) (literal : ℤ) (place : ℕ) → place < length literals → get_or literals place literal ≡ literal → is_among literals literal ≡ true
member_among [] literal place within at = absurd (omega arith)
member_among (first ∷ literals) literal zero within at = or_left _ _ ((Decides-int_eq first literal).1 at)
member_among (first ∷ literals) literal (suc place) within at = or_right _ _ (member_among literals literal place (omega arith) at)

-- a true literal makes a clause met
pub met_by : (values : Assignment) (clause : List ℤ) (literal : ℤ) (place : ℕ) → place < length clause → get_or clause place literal ≡ literal → is_true values literal ≡ true → meets values clause ≡ true
met_by values [] literal place within at holds = absurd (omega arith)
met_by values (first ∷ clause) literal zero within at holds = or_left _ _ (ap (is_true values) at ∙ holds)
met_by values (first ∷ clause) literal (suc place) within at holds = or_right _ _ (met_by values clause literal place (omega arith) at holds)

-- what meets a part meets the whole
pub part_meets : (values : Assignment) (part whole : List ℤ) → is_part part whole ≡ true → meets values part ≡ true → meets values whole ≡ true
part_meets values [] whole is met = absurd (false≢true met)
part_meets values (literal ∷ part) whole is met =
    let parts = and_parts (is_among whole literal) (is_part part whole) is in
    elim (or_cases (is_true values literal) (meets values part) met) [
      | inl here ↦ let member = among_member whole literal parts.0 in met_by values whole literal member.0 member.1 member.2 here
      | inr there ↦ part_meets values part whole parts.1 there
    ]

part_of_more : (part whole : List ℤ) → ((literal : ℤ) → Contains part literal → Contains whole literal) → is_part part whole ≡ true
part_of_more [] whole each = refl
part_of_more (literal ∷ part) whole each =
    let member = each literal (0, omega arith, refl) in
    and_from _ _ (member_among whole literal member.0 member.1 member.2) (part_of_more part whole (λ other there. each other (suc there.0, omega (arith, there.1), there.2)))

pub part_itself : (clause : List ℤ) → is_part clause clause ≡ true
part_itself clause = part_of_more clause clause (λ literal member. member)
