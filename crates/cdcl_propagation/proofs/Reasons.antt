-- Reasons: as the trail grows, and as it is taken back.
use Rattle.std.proofs.Common.{◌≡◌, ℕ, ◌<◌, [], ◌∷◌, length, get_or, take, inl, inr, refl, ap, ◌∙◌, arith}
use Rattle.std.specs.List.{Contains}
use Rattle.std.proofs.lemmas.Bool.{cases_lt, cases_order}
use Rattle.std.proofs.lemmas.List.{get_or_append_left, get_or_push, get_or-take, get_or_default, take_all, length_push, length-take, take-take, take-append-le}
use Rattle.std.proofs.lemmas.List.Elements.{Contains-append_left, Contains-push}
use Rattle.clauses.specs.Live.{Numbered}
use Rattle.cdcl_trail.specs.Path.{Path, IsPath, pushed, decided, undone, start_of}
use Rattle.cdcl_propagation.specs.State.{HasReason, HasReasons}
use Rattle.cdcl_propagation.specs.Visits.{IsForced}

-- a reason stays where trail and reasons are the same up to its place
pub reason-same : (clauses : Numbered ℕ) (old new : Path) (place : ℕ) → get_or new.reasons place 0 ≡ get_or old.reasons place 0 → get_or new.literals place 0 ≡ get_or old.literals place 0
    → take place new.literals ≡ take place old.literals → HasReason clauses old place → HasReason clauses new place
reason-same clauses old new place reason literal before has = record {
  clause = has.clause;
  live = rw reason has.live;
  stands = rw literal has.stands;
  others = rw (literal, before) has.others;
}

-- the trail grows by a literal: the places before it keep their reasons
grown : (clauses : Numbered ℕ) (path : Path) (literal reason place : ℕ) → length path.reasons ≡ length path.literals → place < length path.literals
    → HasReason clauses path place → HasReason clauses (pushed path literal reason) place
grown clauses path literal reason place same within has =
    reason-same clauses path (pushed path literal reason) place
    (get_or_append_left path.reasons (reason ∷ []) 0 place (omega arith))
    (get_or_append_left path.literals (literal ∷ []) 0 place within)
    (take-append-le place path.literals (literal ∷ []) (omega arith))
    has

forced : (clauses : Numbered ℕ) (path : Path) (literal number : ℕ) → length path.reasons ≡ length path.literals → IsForced clauses path number literal
    → HasReason clauses (pushed path literal number) (length path.literals)
forced clauses path literal number same is =
    let reason = get_or_push path.reasons number 0 (length path.literals) same in
    let at = get_or_push path.literals literal 0 (length path.literals) refl in
    let before = take-append-le (length path.literals) path.literals (literal ∷ []) (omega arith) ∙ take_all (length path.literals) path.literals (omega arith) in
    record {
      clause = is.clause;
      live = rw reason is.live;
      stands = rw at is.stands;
      others = rw (at, before) is.others;
    }

pub reasons-pushed : (clauses : Numbered ℕ) (path : Path) (literal number : ℕ) → length path.reasons ≡ length path.literals → IsForced clauses path number literal
    → HasReasons clauses path → HasReasons clauses (pushed path literal number)
reasons-pushed clauses path literal number same is reasons place within =
    elim (cases_lt place (length path.literals)) [
      | inl before ↦
          elim (reasons place before) [
            | inl limit ↦ inl (limit.0, get_or_append_left path.reasons (number ∷ []) 0 place (omega arith) ∙ limit.1)
            | inr has ↦ inr (grown clauses path literal number place same before has)
          ]
      | inr last ↦
          let at : place ≡ length path.literals = omega (arith, length_push path.literals literal) in
          inr (rw at (forced clauses path literal number same is))
    ]

pub reasons-decided : (clauses : Numbered ℕ) (path : Path) (literal : ℕ) → length path.reasons ≡ length path.literals → HasReasons clauses path → HasReasons clauses (decided path literal)
reasons-decided clauses path literal same reasons place within =
    elim (cases_lt place (length path.literals)) [
      | inl before ↦
          elim (reasons place before) [
            | inl limit ↦
                inl (
                  Contains-append_left path.limits (length path.literals ∷ []) place limit.0,
                  get_or_append_left path.reasons (0 ∷ []) 0 place (omega arith) ∙ limit.1,
                )
            | inr has ↦ inr (reason-same clauses (pushed path literal 0) (decided path literal) place refl refl refl (grown clauses path literal 0 place same before has))
          ]
      | inr last ↦
          let at : place ≡ length path.literals = omega (arith, length_push path.literals literal) in
          inl (rw at (Contains-push path.limits (length path.literals)), rw at (get_or_push path.reasons 0 0 (length path.literals) same))
    ]

-- a place below the begin of a level, where another begins, is of a lower level
limit_below : (path : Path) (level place : ℕ) → IsPath path → level < length path.limits → place < start_of path level → Contains path.limits place → Contains (take level path.limits) place
limit_below path level place is inside below there =
    let found : start_of path there.0 ≡ place = get_or_default path.limits there.0 0 place there.1 ∙ there.2 in
    elim (cases_lt there.0 level) [
      | inl lower ↦ (there.0, omega (arith, length-take level path.limits, there.1), get_or-take level path.limits there.0 place lower ∙ there.2)
      | inr higher ↦
          elim (cases_order there.0 level) [
            | inl same ↦ let at = ap (start_of path) same in absurd (omega arith)
            | inr (inl lower) ↦ absurd (omega arith)
            | inr (inr above) ↦ let rising = is.rising level there.0 above there.1 in absurd (omega arith)
          ]
    ]

pub reasons-undone : (clauses : Numbered ℕ) (path : Path) (level : ℕ) → IsPath path → level < length path.limits → HasReasons clauses path → HasReasons clauses (undone path level)
reasons-undone clauses path level is inside reasons place within =
    let start = start_of path level in
    let begun = is.begun level inside in
    let below : place < start = omega (arith, length-take start path.literals) in
    elim (reasons place (omega arith)) [
      | inl limit ↦ inl (limit_below path level place is inside below limit.0, get_or-take start path.reasons place 0 below ∙ limit.1)
      | inr has ↦
          inr (
          reason-same clauses path (undone path level) place
          (get_or-take start path.reasons place 0 below)
          (get_or-take start path.literals place 0 below)
          (take-take place start path.literals (omega arith))
          has
          )
    ]
