-- What the fields of a trail keep says of the trail.
use Rattle.std.proofs.Common.{◌≡◌, ℕ, zero, suc, ◌+◌, ◌*◌, ◌<◌, ◌≤◌, Bool, true, List, [], ◌∷◌, ◌++◌, length, get_or, set, eqb, eq-eqb, refl, sym, ap, ◌∙◌, arith}
use Rattle.std.specs.List.{All, Contains}
use Rattle.std.proofs.lemmas.List.{get_or_default, length-set, length_push}
use Rattle.std.proofs.lemmas.List.Elements.{Contains-get_or}
use Rattle.std.proofs.lemmas.List.Folds.{list_any_at}
use Rattle.std.proofs.lemmas.Map.Steps.{le-length_from_below}
use Rattle.cdcl_trail.specs.Literals.{variable, opposite}
use Rattle.cdcl_trail.specs.Path.{Path, IsPath}
use Rattle.cdcl_trail.specs.Fields.{IsMarked, KnowsPlaces, IsRising}
use Rattle.cdcl_trail.proofs.Numbers.{variable-opposite, opposite-differs}
use Rattle.cdcl_trail.proofs.Marks.{mark_within, marked-push, places-push}

within_at : (marks : List Bool) (literals : List ℕ) (place : ℕ) → IsMarked marks literals → place < length literals → get_or literals place 0 < length marks
within_at marks literals place is within = mark_within marks (get_or literals place 0) (is.marked (get_or literals place 0) (Contains-get_or literals place 0 within))

pub all_within : (marks : List Bool) (literals : List ℕ) → IsMarked marks literals → All (λ literal. literal < length marks) literals
all_within marks literals is place d within = rw (get_or_default literals place d 0 within) (within_at marks literals place is within)

apart : (places literals : List ℕ) → KnowsPlaces places literals → (place other : ℕ) → place < length literals → other < length literals
    → variable (get_or literals place 0) ≡ variable (get_or literals other 0) → place ≡ other
apart places literals knows place other within within' same =
    sym (knows place within) ∙ ap (λ v. get_or places v 0) same ∙ knows other within'

at_zero : (literals : List ℕ) (place literal : ℕ) → place < length literals → get_or literals place literal ≡ literal → get_or literals place 0 ≡ literal
at_zero literals place literal within is = get_or_default literals place 0 literal within ∙ is

consistent : (places literals : List ℕ) → KnowsPlaces places literals → (literal : ℕ) → Contains literals literal → Contains literals (opposite literal) → ⊥
consistent places literals knows literal here there =
    let first = at_zero literals here.0 literal here.1 here.2 in
    let second = at_zero literals there.0 (opposite literal) there.1 there.2 in
    let same = apart places literals knows here.0 there.0 here.1 there.1 (ap variable first ∙ sym (variable-opposite literal) ∙ sym (ap variable second)) in
    opposite-differs literal (sym first ∙ ap (λ p. get_or literals p 0) same ∙ second)

pub few : (marks : List Bool) (places literals : List ℕ) → IsMarked marks literals → KnowsPlaces places literals → length marks ≡ 2 * length places → length literals ≤ length places
few marks places literals is knows size =
    le-length_from_below places (length literals) (λ place within.
    let below = within_at marks literals place is within in
    list_any_at (eqb place) places (variable (get_or literals place 0)) 0 (omega arith) (eq-eqb place (get_or places (variable (get_or literals place 0)) 0) (sym (knows place within))))

-- a literal that is neither true nor false has room among the variables
pub few_more : (marks : List Bool) (places literals : List ℕ) (literal : ℕ) → IsMarked marks literals → KnowsPlaces places literals → length marks ≡ 2 * length places
    → literal < 2 * length places → (Contains literals literal → ⊥) → (Contains literals (opposite literal) → ⊥) → length literals + 1 ≤ length places
few_more marks places literals literal is knows size within not_true not_false =
    let marks' = set marks literal true in
    let places' = set places (variable literal) (length literals) in
    let size' : length marks' ≡ 2 * length places' = omega (arith, length-set marks literal true, length-set places (variable literal) (length literals)) in
    let most = few marks' places' (literals ++ literal ∷ []) (marked-push marks literals literal is (omega arith)) (places-push places literals literal knows not_true not_false (omega arith)) size' in
    omega (arith, length_push literals literal, length-set places (variable literal) (length literals))

-- rising numbers below a bound are no more than it
rising_at : (limits : List ℕ) (level : ℕ) → IsRising limits → level < length limits → level ≤ get_or limits level 0
rising_at limits zero rising within = omega arith
rising_at limits (suc level) rising within =
    let below = rising_at limits level rising (omega arith) in
    let next = rising level (suc level) (omega arith) within in
    omega arith

rising_some : (limits : List ℕ) (size level : ℕ) → IsRising limits → All (λ limit. limit < size) limits → length limits ≡ level → length limits ≤ size
rising_some limits size zero rising begun is = omega arith
rising_some limits size (suc level) rising begun is =
    let last = rising_at limits level rising (omega arith) in
    let below = begun level 0 (omega arith) in
    omega arith

pub rising_few : (limits : List ℕ) (size : ℕ) → IsRising limits → All (λ limit. limit < size) limits → length limits ≤ size
rising_few limits size rising begun = rising_some limits size (length limits) rising begun refl

pub path : (p : Path) (marks : List Bool) (places : List ℕ) → IsMarked marks p.literals → KnowsPlaces places p.literals → length marks ≡ 2 * length places → length places ≡ p.variables
    → length p.reasons ≡ length p.literals → IsRising p.limits → All (λ limit. limit < length p.literals) p.limits → IsPath p
path p marks places is knows size variables reasons rising begun = record {
  within = λ place d within.
      let below = within_at marks p.literals place is within in
      rw (get_or_default p.literals place d 0 within) (omega arith);
  apart = apart places p.literals knows;
  consistent = consistent places p.literals knows;
  few = let most = few marks places p.literals is knows size in omega arith;
  reasons = reasons;
  rising = rising;
  begun = λ level within. begun level 0 within;
}
