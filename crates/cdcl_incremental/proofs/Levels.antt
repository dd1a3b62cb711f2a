-- At which levels a literal is false.
use Rattle.std.proofs.Common.{◌≡◌, ℕ, ◌/◌, ◌<◌, ◌≤◌, List, length, get_or, inl, inr, sym, ap, ◌∙◌, subst, arith}
use Rattle.std.specs.List.{Contains}
use Rattle.std.proofs.lemmas.Bool.{cases_lt}
use Rattle.std.proofs.lemmas.List.{get_or_default}
use Rattle.cdcl_trail.specs.Fields.{KnowsPlaces}
use Rattle.cdcl_trail.specs.Literals.{opposite, variable}
use Rattle.cdcl_trail.specs.Path.{Path, IsPath, start_of}
use Rattle.cdcl_conflict_theory.proofs.Lower.{front_contains}
use Rattle.cdcl_incremental.specs.Levels.{true_at, IsFalseAtLevel, IsOpenBelow, IsOpenIn}
use Rattle.cdcl.specs.Turns.{steps_at, begin_of}
use Rattle.cdcl.proofs.Trails.{begin_inside, begin_past, begin_within}

-- a false literal is false at the level of its place, and above
pub false_from : (path : Path) (places : List ℕ) (literal levels level : ℕ) → IsPath path → KnowsPlaces places path.literals → Contains path.literals (opposite literal)
    → ((next : ℕ) → levels ≤ next → next < length path.limits → get_or places (literal / 2) 0 < start_of path next) → levels ≤ level → IsFalseAtLevel path literal level
false_from path places literal levels level is knows there above order =
    let at : get_or path.literals there.0 0 ≡ opposite literal = get_or_default path.literals there.0 0 (opposite literal) there.1 ∙ there.2 in
    let same : variable (get_or path.literals there.0 0) ≡ literal / 2 = omega (arith, ap variable at) in
    let place : get_or places (literal / 2) 0 ≡ there.0 = ap (λ (v : ℕ). get_or places v 0) (sym same) ∙ knows there.0 there.1 in
    let before : there.0 < begin_of path level =
    elim (cases_lt level (length path.limits)) [
      | inl inside ↦ let start = above level order inside in omega (arith, begin_inside path level inside)
      | inr past ↦ omega (arith, begin_past path level past, there.1)
    ] in
    subst (Contains (true_at path level)) at (front_contains (steps_at path) (begin_of path level) there.0 (begin_within path level is) before)

-- a literal of a clause, by the number that was read
pub open_in : (path : Path) (clause : List ℕ) (literal read levels : ℕ) → literal ≡ read → Contains clause read → IsOpenBelow path read levels → IsOpenIn path clause literal levels
open_in path clause literal read levels is there opens = rw is record { has = there; opens = opens }

-- what is not false at some levels is not false at fewer
pub fewer_open : (path : Path) (clause : List ℕ) (literal levels fewer : ℕ) → IsOpenIn path clause literal levels → fewer ≤ levels → IsOpenIn path clause literal fewer
fewer_open path clause literal levels fewer is order = record { has = is.has; opens = λ level below. is.opens level (omega arith) }
