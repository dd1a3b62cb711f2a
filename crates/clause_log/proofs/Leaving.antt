-- What is left of a clause with one literal more.
use Rattle.std.proofs.Common.{◌≡◌, ◌≢◌, ℤ, List, [], ◌∷◌, ◌++◌, ◌⊎◌, inl, inr, refl, sym, subst}
use Rattle.std.specs.List.{All, Contains}
use Rattle.std.proofs.lemmas.List.Elements.{All-push, All-weaker, Contains-push, Contains-append_left}
use Rattle.clauses.specs.Passing.{IsLeft}
use Rattle.clause_log.specs.declared.left.Left.{Left}
use Rattle.clause_log.specs.declared.left.Left.TheVariants.{Nothing, One, Several}
use Rattle.clause_log.specs.Lefts.{LeavesOf}

-- the literal of an `IsLeft` stays, with a literal more that is in the set or that one again
left_more : (set clause : List ℤ) (literal more : ℤ) → IsLeft set clause literal → (more ≡ literal) ⊎ Contains set more → IsLeft set (clause ++ more ∷ []) literal
left_more set clause literal more left here = record {
  in_clause = Contains-append_left clause (more ∷ []) literal left.in_clause;
  not_in_set = left.not_in_set;
  others = All-push (λ other. (other ≡ literal) ⊎ Contains set other) clause more left.others here;
}

several_more : (set clause : List ℤ) (more : ℤ) → LeavesOf set clause Several → LeavesOf set (clause ++ more ∷ []) Several
several_more set clause more two = (
  two.0,
  two.1,
  Contains-append_left clause (more ∷ []) two.0 two.2,
  Contains-append_left clause (more ∷ []) two.1 two.3,
  two.4,
  two.5,
  two.6,
)

-- a literal of the set leaves what was left
pub leaves_member : (set clause : List ℤ) (literal : ℤ) (left : Left) → Contains set literal → LeavesOf set clause left → LeavesOf set (clause ++ literal ∷ []) left
leaves_member set clause literal Nothing member leaves = All-push (Contains set) clause literal leaves member
leaves_member set clause literal (One other) member leaves = left_more set clause other literal leaves (inr member)
leaves_member set clause literal Several member leaves = several_more set clause literal leaves

-- the first literal that is left
pub leaves_first : (set clause : List ℤ) (literal : ℤ) (left : Left) → left ≡ Nothing → (Contains set literal → ⊥) → LeavesOf set clause left → IsLeft set (clause ++ literal ∷ []) literal
leaves_first set clause literal left is none leaves =
    let all : All (Contains set) clause = subst (LeavesOf set clause) is leaves in
    record {
      in_clause = Contains-push clause literal;
      not_in_set = none;
      others = All-push (λ other. (other ≡ literal) ⊎ Contains set other) clause literal
          (All-weaker (Contains set) (λ other. (other ≡ literal) ⊎ Contains set other) (λ other member. inr member) clause all) (inl refl);
    }

-- the same literal again
pub leaves_again : (set clause : List ℤ) (literal other : ℤ) (left : Left) → left ≡ One other → other ≡ literal → LeavesOf set clause left → IsLeft set (clause ++ literal ∷ []) other
leaves_again set clause literal other left is same leaves =
    let one : IsLeft set clause other = subst (LeavesOf set clause) is leaves in
    left_more set clause other literal one (inl (sym same))

-- another one
pub leaves_second : (set clause : List ℤ) (literal other : ℤ) (left : Left) → left ≡ One other → other ≢ literal → (Contains set literal → ⊥) → LeavesOf set clause left → LeavesOf set (clause ++ literal ∷ []) Several
leaves_second set clause literal other left is differs none leaves =
    let one : IsLeft set clause other = subst (LeavesOf set clause) is leaves in
    (other, literal, Contains-append_left clause (literal ∷ []) other one.in_clause, Contains-push clause literal, differs, one.not_in_set, none)

pub leaves_several : (set clause : List ℤ) (literal : ℤ) (left : Left) → left ≡ Several → LeavesOf set clause left → LeavesOf set (clause ++ literal ∷ []) Several
leaves_several set clause literal left is leaves =
    let two : LeavesOf set clause Several = subst (LeavesOf set clause) is leaves in
    several_more set clause literal two
