-- The trail of the propagator is one that the analysis of a conflict can read.
use Rattle.std.proofs.Common.{◌≡◌, ◌≢◌, ℕ, zero, suc, ◌-◌, ◌<◌, ◌≤◌, List, length, take, get_or, Some, ◌⊎◌, inl, inr, refl, sym, ap, ◌∙◌, arith}
use Rattle.std.specs.List.{Contains}
use Rattle.std.proofs.lemmas.Bool.{cases_lt, cases_order}
use Rattle.std.proofs.lemmas.List.{get_or_default, get_or_past}
use Rattle.std.proofs.lemmas.List.Elements.{All-weaker}
use Rattle.clauses.specs.Live.{Numbered, clause_of}
use Rattle.cdcl_trail.specs.Literals.{opposite, variable}
use Rattle.cdcl_trail.specs.Path.{Path, IsPath, start_of}
use Rattle.cdcl_propagation.specs.State.{State, IsSettled, HasReason as HasReasonIn, IsConflict as IsConflictIn}
use Rattle.cdcl_conflict_theory.specs.Trails.{IsTrail, IsConflict, HasReason, HasEnded, KnowsPlaces, IsFalseBelow}
use Rattle.cdcl_conflict_theory.proofs.Literals.{opposite-opposite}
use Rattle.cdcl_conflict_theory.proofs.Lower.{front_at}
use Rattle.cdcl.specs.Turns.{steps_at, begin_of}

-- where there is a level, it begins within the trail
pub begin_inside : (path : Path) (level : ℕ) → level < length path.limits → begin_of path level ≡ start_of path level
begin_inside path level inside = get_or_default path.limits level (length path.literals) 0 inside

pub begin_past : (path : Path) (level : ℕ) → length path.limits ≤ level → begin_of path level ≡ length path.literals
begin_past path level past = get_or_past path.limits level (length path.literals) past

pub begin_within : (path : Path) (level : ℕ) → IsPath path → begin_of path level ≤ length path.literals
begin_within path level is =
    elim (cases_lt level (length path.limits)) [
      | inl inside ↦ let begun = is.begun level inside in omega (arith, begin_inside path level inside)
      | inr past ↦ omega (arith, begin_past path level past)
    ]

-- one of the first levels begins before a later one
pub begin_rising : (path : Path) (level next : ℕ) → IsPath path → level ≤ next → begin_of path level ≤ begin_of path next
begin_rising path level next is order =
    elim (cases_lt next (length path.limits)) [
      | inl inside ↦
          elim (cases_order level next) [
            | inl same ↦ omega (arith, ap (begin_of path) same)
            | inr (inl below) ↦
                let rising = is.rising level next below inside in
                omega (arith, begin_inside path level (omega arith), begin_inside path next inside)
            | inr (inr above) ↦ absurd (omega arith)
          ]
      | inr past ↦ omega (arith, begin_past path next past, begin_within path level is)
    ]

-- no level but those that there are begins at a place
limit_at : (path : Path) (place : ℕ) → Contains path.limits place → (level : ℕ) × (level < length path.limits) × (start_of path level ≡ place)
limit_at path place there = (there.0, there.1, get_or_default path.limits there.0 0 place there.1 ∙ there.2)

-- nothing has the number 0
no_zero : (clauses : Numbered ℕ) (number : ℕ) (clause : List ℕ) → clause_of clauses number ≡ Some clause → number ≢ 0
no_zero clauses zero clause live same = cc
no_zero clauses (suc place) clause live same = omega arith

-- a literal of the first so many places is false by one of them
pub false_below : (path : Path) (end literal : ℕ) → end ≤ length path.literals → Contains (take end path.literals) (opposite literal) → IsFalseBelow (steps_at path) end literal
false_below path end literal order member =
    let found = front_at (steps_at path) end (opposite literal) order member in
    (found.0, found.1, sym (ap opposite found.2 ∙ opposite-opposite literal))

reason_in : (clauses : Numbered ℕ) (path : Path) (place : ℕ) → place < length path.literals → HasReasonIn clauses path place → HasReason clauses (steps_at path) place
reason_in clauses path place within has = record {
  clause = has.clause;
  live = has.live;
  own = has.stands;
  others =
      All-weaker (λ other. (other ≡ get_or path.literals place 0) ⊎ Contains (take place path.literals) (opposite other))
      (λ other. (other ≡ get_or path.literals place 0) ⊎ IsFalseBelow (steps_at path) place other)
      (λ other either. elim either [ inl same ↦ inl same | inr before ↦ inr (false_below path place other (omega arith) before) ])
      has.clause
      has.others;
}

-- a literal of level 0 has a reason, and so has each behind the begin of the current level
reasoned : (state : State) (place : ℕ) → IsSettled state → place < length state.path.literals → (Contains state.path.limits place → ⊥) → get_or state.path.reasons place 0 ≢ 0
reasoned state place is within none =
    elim (is.reasons place within) [
      | inl decision ↦ absurd (none decision.0)
      | inr has ↦ no_zero state.clauses (get_or state.path.reasons place 0) has.clause has.live
    ]

below_first : (path : Path) (place : ℕ) → IsPath path → place < begin_of path 0 → Contains path.limits place → ⊥
below_first path place is below there =
    let found = limit_at path place there in
    let rising = begin_rising path 0 found.0 is (omega arith) in
    omega (arith, begin_inside path found.0 found.1, found.2)

above_last : (path : Path) (place : ℕ) → IsPath path → begin_of path (length path.limits - 1) < place → Contains path.limits place → ⊥
above_last path place is above there =
    let found = limit_at path place there in
    let rising = begin_rising path found.0 (length path.limits - 1) is (omega (arith, found.1)) in
    omega (arith, begin_inside path found.0 found.1, found.2)

pub trail_of : (state : State) → IsSettled state → IsTrail state.clauses (steps_at state.path)
trail_of state is =
    let path = state.path in
    record {
      apart = λ place other here there same. is.path.apart place other here there same;
      reasons = is.path.reasons;
      order = begin_rising path 0 (length path.limits - 1) is.path (omega arith);
      within = begin_within path (length path.limits - 1) is.path;
      reasoned = λ place within some. elim (is.reasons place within) [
        | inl decision ↦ absurd (some decision.1)
        | inr has ↦ reason_in state.clauses path place within has
      ];
      fixed = λ place below. reasoned state place is (omega (arith, begin_within path 0 is.path)) (below_first path place is.path below);
      current = λ place above within. reasoned state place is within (above_last path place is.path above);
    }

pub ended_of : (state : State) → IsSettled state → 0 < length state.path.limits → HasEnded state.clauses (steps_at state.path)
ended_of state is some =
    let last = length state.path.limits - 1 in
    let inside : last < length state.path.limits = omega arith in
    rw (begin_inside state.path last inside) (is.levels last inside)

pub conflict_of : (state : State) (number : ℕ) → IsConflictIn state.clauses state.path number → IsConflict state.clauses (steps_at state.path) number
conflict_of state number conflict = record {
  clause = conflict.clause;
  live = conflict.live;
  falses =
      All-weaker (λ literal. Contains state.path.literals (opposite literal)) (IsFalseBelow (steps_at state.path) (length state.path.literals))
      (λ literal there. false_at state.path literal there) conflict.clause conflict.false_;
}
  where
    false_at : (path : Path) (literal : ℕ) → Contains path.literals (opposite literal) → IsFalseBelow (steps_at path) (length path.literals) literal
    false_at path literal there =
        let at : get_or path.literals there.0 0 ≡ opposite literal = get_or_default path.literals there.0 0 (opposite literal) there.1 ∙ there.2 in
        (there.0, there.1, sym (ap opposite at ∙ opposite-opposite literal))

pub places_of : (path : Path) (places : List ℕ) → IsPath path → length places ≡ path.variables
    → ((place : ℕ) → place < length path.literals → get_or places (variable (get_or path.literals place 0)) 0 ≡ place) → KnowsPlaces (steps_at path) places
places_of path places is size knows place within =
    let below = is.within place 0 within in
    (omega arith, knows place within)

-- the parts of the trail, as they are read, are the trail as it is analyzed
pub steps_same : (path : Path) (literals reasons limits : List ℕ) (fixed last start : ℕ) → literals ≡ path.literals → reasons ≡ path.reasons → limits ≡ path.limits
    → fixed ≡ get_or limits 0 (length literals) → last ≡ length limits - 1 → start ≡ get_or limits last (length literals)
    → record { literals = literals; reasons = reasons; fixed = fixed; start = start } ≡ steps_at path
steps_same path literals reasons limits fixed last start same_literals same_reasons same_limits fixed_is last_is start_is =
    rw (start_is, fixed_is, last_is, same_limits, same_reasons, same_literals) refl
