-- Marks of literals, and places of variables.
use Rattle.std.proofs.Common.{◌≡◌, ◌≢◌, ℕ, zero, suc, ◌+◌, ◌<◌, ◌≤◌, Bool, true, false, List, [], ◌∷◌, ◌++◌, length, get_or, set, take, drop, subst, ◌⊎◌, inl, inr, sym, ap, ◌∙◌, arith}
use Rattle.std.specs.List.{All, Contains}
use Rattle.std.proofs.lemmas.Bool.{cases_eq, cases_lt}
use Rattle.std.proofs.lemmas.List.{get_or_default, get_or-set_same, get_or-set_other, get_or_append_left, get_or_push, length_push, take-append-drop, length-take, get_or-take, get_or-drop, length-drop}
use Rattle.std.proofs.lemmas.List.Elements.{All-push, All-weaker, Contains-append_left, Contains-append_cases, Contains-push, Contains-push_cases, Contains-get_or}
use Rattle.cdcl_trail.specs.Literals.{variable, opposite}
use Rattle.cdcl_trail.specs.Fields.{IsMarked, KnowsPlaces, IsRising}
use Rattle.cdcl_trail.proofs.Numbers.{same_variable}

-- a mark stands within
pub mark_within : (marks : List Bool) (literal : ℕ) → get_or marks literal false ≡ true → literal < length marks
mark_within [] literal at = cc
mark_within (mark ∷ marks) zero at = omega arith
mark_within (mark ∷ marks) (suc literal) at = let rest = mark_within marks literal at in omega arith

pub marked-push : (marks : List Bool) (literals : List ℕ) (literal : ℕ) → IsMarked marks literals → literal < length marks
    → IsMarked (set marks literal true) (literals ++ literal ∷ [])
marked-push marks literals literal is within = record {
  marked = λ other there.
      elim (cases_eq other literal) [
        | inl same ↦ rw same (get_or-set_same marks literal true false within)
        | inr differs ↦
            elim (Contains-push_cases literals literal other there) [
              | inl before ↦ rw (get_or-set_other marks literal other true false differs) (is.marked other before)
              | inr same ↦ absurd (differs (sym same))
            ]
      ];
  true_ = λ other at.
      elim (cases_eq other literal) [
        | inl same ↦ rw same (Contains-push literals literal)
        | inr differs ↦
            let was = rw (get_or-set_other marks literal other true false differs) at at in
            Contains-append_left literals (literal ∷ []) other (is.true_ other was)
      ];
}

-- the variable of a literal that is neither true nor false has no place
apart : (literals : List ℕ) (literal place : ℕ) → (Contains literals literal → ⊥) → (Contains literals (opposite literal) → ⊥) → place < length literals
    → variable (get_or literals place 0) ≢ variable literal
apart literals literal place not_true not_false within same =
    let there = Contains-get_or literals place 0 within in
    elim (same_variable (get_or literals place 0) literal same) [
      | inl is ↦ not_true (rw is at there)
      | inr is ↦ not_false (rw is at there)
    ]

pub places-push : (places literals : List ℕ) (literal : ℕ) → KnowsPlaces places literals → (Contains literals literal → ⊥) → (Contains literals (opposite literal) → ⊥)
    → variable literal < length places → KnowsPlaces (set places (variable literal) (length literals)) (literals ++ literal ∷ [])
places-push places literals literal knows not_true not_false within place below =
    elim (cases_lt place (length literals)) [
      | inl before ↦
          let differs = apart literals literal place not_true not_false before in
          rw (get_or_append_left literals (literal ∷ []) 0 place before, get_or-set_other places (variable literal) (variable (get_or literals place 0)) (length literals) 0 differs) (knows place before)
      | inr last ↦
          let is : place ≡ length literals = omega (arith, length_push literals literal) in
          rw (get_or_push literals literal 0 place (sym is), get_or-set_same places (variable literal) (length literals) 0 within) (sym is)
    ]

-- a literal of the first places is one of all, and each of all is of the first places or behind them
pub take_part : (literals : List ℕ) (start literal : ℕ) → Contains (take start literals) literal → Contains literals literal
take_part literals start literal there = rw (sym (take-append-drop start literals)) (Contains-append_left (take start literals) (drop start literals) literal there)

part : (literals : List ℕ) (start literal : ℕ) → Contains literals literal → Contains (take start literals) literal ⊎ Contains (drop start literals) literal
part literals start literal there =
    Contains-append_cases (take start literals) (drop start literals) literal (let P : List ℕ → Type 0 = λ xs. Contains xs literal in subst P (sym (take-append-drop start literals)) there)

-- the limits and the levels' begins, where the trail grows
pub begun-push : (limits literals : List ℕ) (literal : ℕ) → All (λ limit. limit < length literals) limits → All (λ limit. limit < length (literals ++ literal ∷ [])) limits
begun-push limits literals literal begun = All-weaker (λ limit. limit < length literals) (λ limit. limit < length (literals ++ literal ∷ [])) (λ limit below. omega (arith, length_push literals literal)) limits begun

pub begun-decide : (limits literals : List ℕ) (literal : ℕ) → All (λ limit. limit < length literals) limits
    → All (λ limit. limit < length (literals ++ literal ∷ [])) (limits ++ length literals ∷ [])
begun-decide limits literals literal begun =
    All-push (λ limit. limit < length (literals ++ literal ∷ [])) limits (length literals) (begun-push limits literals literal begun) (omega (arith, length_push literals literal))

pub rising-decide : (limits : List ℕ) (size : ℕ) → IsRising limits → All (λ limit. limit < size) limits → IsRising (limits ++ size ∷ [])
rising-decide limits size rising begun level next order within =
    let before : level < length limits = omega (arith, length_push limits size) in
    elim (cases_lt next (length limits)) [
      | inl inside ↦
          rw (get_or_append_left limits (size ∷ []) 0 level before, get_or_append_left limits (size ∷ []) 0 next inside) (rising level next order inside)
      | inr last ↦
          let is : length limits ≡ next = omega (arith, length_push limits size) in
          rw (get_or_append_left limits (size ∷ []) 0 level before, get_or_push limits size 0 next is) (begun level 0 before)
    ]

-- what was taken back: the marks of what is left, the places, the levels
pub marked-undo : (old new : List Bool) (literals : List ℕ) (start : ℕ) → IsMarked old literals
    → ((literal : ℕ) → get_or new literal false ≡ true → (get_or old literal false ≡ true) × (Contains (drop start literals) literal → ⊥))
    → ((literal : ℕ) → get_or old literal false ≡ true → (Contains (drop start literals) literal → ⊥) → get_or new literal false ≡ true)
    → ((literal : ℕ) → Contains (take start literals) literal → Contains (drop start literals) literal → ⊥)
    → IsMarked new (take start literals)
marked-undo old new literals start is gone kept apart = record {
  marked = λ literal there. kept literal (is.marked literal (take_part literals start literal there)) (apart literal there);
  true_ = λ literal at.
      elim (part literals start literal (is.true_ literal (gone literal at).0)) [ inl there ↦ there | inr above ↦ absurd ((gone literal at).1 above) ];
}

pub places-undo : (places literals : List ℕ) (start : ℕ) → start ≤ length literals → KnowsPlaces places literals → KnowsPlaces places (take start literals)
places-undo places literals start inside knows place within =
    let below : place < start = omega (arith, length-take start literals) in
    rw (get_or-take start literals place 0 below) (knows place (omega arith))

-- a literal of the first places is none behind them
pub apart-undo : (places literals : List ℕ) (start : ℕ) → start ≤ length literals → KnowsPlaces places literals
    → (literal : ℕ) → Contains (take start literals) literal → Contains (drop start literals) literal → ⊥
apart-undo places literals start inside knows literal here there =
    let below : here.0 < start = omega (arith, length-take start literals, here.1) in
    let above : start + there.0 < length literals = omega (arith, length-drop start literals, there.1) in
    let first : get_or literals here.0 0 ≡ literal = sym (get_or-take start literals here.0 0 below) ∙ get_or_default (take start literals) here.0 0 literal here.1 ∙ here.2 in
    let second : get_or literals (start + there.0) 0 ≡ literal = sym (get_or-drop start literals there.0 0) ∙ get_or_default (drop start literals) there.0 0 literal there.1 ∙ there.2 in
    let at_first = knows here.0 (omega arith) in
    let at_second = knows (start + there.0) above in
    let same : here.0 ≡ start + there.0 = sym at_first ∙ ap (λ l. get_or places (variable l) 0) (first ∙ sym second) ∙ at_second in
    omega arith

pub rising-undo : (limits : List ℕ) (level : ℕ) → IsRising limits → IsRising (take level limits)
rising-undo limits level rising first next order within =
    let below : next < level = omega (arith, length-take level limits) in
    let before : first < level = omega arith in
    rw (get_or-take level limits first 0 before, get_or-take level limits next 0 below) (rising first next order (omega (arith, length-take level limits)))

pub begun-undo : (limits literals : List ℕ) (level : ℕ) → level < length limits → IsRising limits → All (λ limit. limit < length literals) limits
    → All (λ limit. limit < length (take (get_or limits level 0) literals)) (take level limits)
begun-undo limits literals level inside rising begun place d within =
    let below : place < level = omega (arith, length-take level limits) in
    let start = begun level 0 inside in
    rw (get_or-take level limits place d below, get_or_default limits place d 0 (omega arith)) (omega (arith, length-take (get_or limits level 0) literals, rising place level below inside))
