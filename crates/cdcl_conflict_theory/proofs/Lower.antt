-- The first so many literals of a trail, and those below the current level.
use Rattle.std.proofs.Common.{◌≡◌, ℕ, ◌<◌, ◌≤◌, take, sym, ◌∙◌, subst, arith}
use Rattle.std.specs.List.{Contains}
use Rattle.std.proofs.lemmas.List.{get_or_default, get_or-take, length-take-le}
use Rattle.std.proofs.lemmas.List.Elements.{Contains-get_or}
use Rattle.clauses.specs.Live.{Numbered}
use Rattle.cdcl_conflict_theory.specs.Trails.{Steps, IsTrail, lower_literals, size_of, literal_at}

-- a literal at one of the first so many places is one of the first so many literals
pub front_contains : (steps : Steps) (end place : ℕ) → end ≤ size_of steps → place < end → Contains (take end steps.literals) (literal_at steps place)
front_contains steps end place order before =
    let size = length-take-le end steps.literals order in
    subst (Contains (take end steps.literals)) (get_or-take end steps.literals place 0 before) (Contains-get_or (take end steps.literals) place 0 (omega (arith, size)))

-- and each of them stands at such a place
pub front_at : (steps : Steps) (end literal : ℕ) → end ≤ size_of steps → Contains (take end steps.literals) literal → (place : ℕ) × (place < end) × (literal_at steps place ≡ literal)
front_at steps end literal order member =
    let size = length-take-le end steps.literals order in
    let before : member.0 < end = omega (arith, size, member.1) in (
      member.0,
      before,
      get_or_default steps.literals member.0 0 literal (omega arith) ∙ sym (get_or-take end steps.literals member.0 literal before) ∙ member.2,
    )

-- the same below the current level
pub lower_contains : (clauses : Numbered ℕ) (steps : Steps) (place : ℕ) → IsTrail clauses steps → place < steps.start → Contains (lower_literals steps) (literal_at steps place)
lower_contains clauses steps place trail below = front_contains steps steps.start place trail.within below

pub lower_at : (clauses : Numbered ℕ) (steps : Steps) (literal : ℕ) → IsTrail clauses steps → Contains (lower_literals steps) literal → (place : ℕ) × (place < steps.start) × (literal_at steps place ≡ literal)
lower_at clauses steps literal trail member = front_at steps steps.start literal trail.within member
