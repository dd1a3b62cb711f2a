-- A visit in the middle of a list.
use Rattle.std.proofs.Common.{◌≡◌, ℕ, ◌+◌, ◌*◌, ◌<◌, ◌≤◌, List, [], ◌∷◌, ◌++◌, length, set, take, drop, subst, ◌⊎◌, inl, inr, refl, sym, ap, ◌∙◌, arith}
use Rattle.std.proofs.lemmas.List.{append-nil, append_assoc, take_more_set, drop-set-lt}
use Rattle.clauses.specs.Live.{Numbered}
use Rattle.cdcl_trail.specs.Path.{Path, pushed}
use Rattle.cdcl_propagation.specs.declared.watch.Pair.{Pair}
use Rattle.cdcl_propagation.specs.declared.watch.Watch.{Watch}
use Rattle.cdcl_propagation.specs.declared.watch.Outcome.TheVariants as outcome
use Rattle.cdcl_propagation.specs.State.{HasReasons, Extends}
use Rattle.cdcl_propagation.specs.Watching.{IsVisiting}
use Rattle.cdcl_propagation.specs.Visits.{Visited, IsForced, StaysTrue, StaysForced, IsGone, CanMove, Moves}
use Rattle.cdcl_propagation.proofs.Reasons.{reasons-pushed}
use Rattle.cdcl_propagation.proofs.Visiting.{visiting-kept, visiting-gone, visiting-pushed, visiting-moved}
use Rattle.std.proofs.lemmas.List.Elements.{Contains-push}

pub extends-same : (path : Path) → Extends path path
extends-same path = record { variables = refl; limits = refl; more = []; literals = sym (append-nil path.literals) }

pub extends-pushed : (path : Path) (literal reason : ℕ) → Extends path (pushed path literal reason)
extends-pushed path literal reason = record { variables = refl; limits = refl; more = literal ∷ []; literals = refl }

pub extends-both : (first next last : Path) → Extends first next → Extends next last → Extends first last
extends-both first next last one two = record {
  variables = two.variables ∙ one.variables;
  limits = two.limits ∙ one.limits;
  more = one.more ++ two.more;
  literals = two.literals ∙ ap (λ ls. ls ++ two.more) one.literals ∙ append_assoc first.literals one.more two.more;
}

-- what a visit keeps: the middle of the list, the reasons; and how the trail grew
pub record Stepped (clauses : Numbered ℕ) (pairs : List Pair) (lists : List (List Watch)) (old new : Path) (head literal : ℕ) (seen rest : List Watch) : Type 0 where
  pub visiting : IsVisiting clauses pairs lists new head literal seen rest
  pub reasons : HasReasons clauses new
  pub grown : Extends old new

kept : (clauses : Numbered ℕ) (pairs : List Pair) (lists : List (List Watch)) (path path' : Path) (head literal : ℕ) (seen rest : List Watch) (old new : Watch)
    → IsVisiting clauses pairs lists path head literal seen (old ∷ rest) → HasReasons clauses path
    → ((path' ≡ path) × StaysTrue clauses (length pairs) (2 * path.variables) path literal old new)
    ⊎ ((path' ≡ pushed path new.blocker new.number) × StaysForced clauses (length pairs) (2 * path.variables) path literal old new)
    → Stepped clauses pairs lists path path' head literal (seen ++ new ∷ []) rest
kept clauses pairs lists path path' head literal seen rest old new at reasons (inl both) =
    rw both.0 record { visiting = visiting-kept clauses pairs lists path head literal seen rest old new at both.1; reasons = reasons; grown = extends-same path }
kept clauses pairs lists path path' head literal seen rest old new at reasons (inr both) =
    let stays = both.1 in
    let grown = visiting-pushed clauses pairs lists path head literal seen (old ∷ rest) new.blocker new.number at in
    let is : StaysTrue clauses (length pairs) (2 * path.variables) (pushed path new.blocker new.number) literal old new =
    record { number = stays.number; entry = stays.entry; true_ = Contains-push path.literals new.blocker } in
    let P : ℕ → Type 0 = λ n. IsForced clauses path n new.blocker in
    rw both.0 record {
      visiting = visiting-kept clauses pairs lists (pushed path new.blocker new.number) head literal seen rest old new grown is;
      reasons = reasons-pushed clauses path new.blocker new.number at.reasons (subst P (sym stays.number) stays.forced) reasons;
      grown = extends-pushed path new.blocker new.number;
    }

pub stepped-kept : (clauses : Numbered ℕ) (pairs : List Pair) (lists : List (List Watch)) (path : Path) (head literal : ℕ) (seen rest : List Watch) (old new : Watch)
    → (pairs' : List Pair) (lists' : List (List Watch)) (path' : Path) → IsVisiting clauses pairs lists path head literal seen (old ∷ rest) → HasReasons clauses path
    → Visited clauses pairs lists path literal old (outcome.Keep new) pairs' lists' path' → Stepped clauses pairs' lists' path path' head literal (seen ++ new ∷ []) rest
stepped-kept clauses pairs lists path head literal seen rest old new pairs' lists' path' at reasons visited =
    rw (visited.0, visited.1) (kept clauses pairs lists path path' head literal seen rest old new at reasons visited.2)

gone : (clauses : Numbered ℕ) (pairs : List Pair) (lists : List (List Watch)) (path : Path) (head literal : ℕ) (seen rest : List Watch) (old : Watch)
    → (pairs' : List Pair) (lists' : List (List Watch)) → IsVisiting clauses pairs lists path head literal seen (old ∷ rest)
    → ((pairs' ≡ pairs) × (lists' ≡ lists) × IsGone clauses pairs literal old.number)
    ⊎ ((new : Pair) × CanMove clauses pairs path literal old.number new × Moves pairs lists old.number new pairs' lists')
    → IsVisiting clauses pairs' lists' path head literal seen rest
gone clauses pairs lists path head literal seen rest old pairs' lists' at (inl stays) =
    rw (stays.0, stays.1) (visiting-gone clauses pairs lists path head literal seen rest old at stays.2)
gone clauses pairs lists path head literal seen rest old pairs' lists' at (inr moves) =
    visiting-moved clauses pairs lists path head literal seen rest old moves.0 pairs' lists' at moves.1 moves.2

pub stepped-gone : (clauses : Numbered ℕ) (pairs : List Pair) (lists : List (List Watch)) (path : Path) (head literal : ℕ) (seen rest : List Watch) (old : Watch)
    → (pairs' : List Pair) (lists' : List (List Watch)) (path' : Path) → IsVisiting clauses pairs lists path head literal seen (old ∷ rest) → HasReasons clauses path
    → Visited clauses pairs lists path literal old outcome.Gone pairs' lists' path' → Stepped clauses pairs' lists' path path' head literal seen rest
stepped-gone clauses pairs lists path head literal seen rest old pairs' lists' path' at reasons visited =
    rw visited.0 record {
      visiting = gone clauses pairs lists path head literal seen rest old pairs' lists' at visited.1;
      reasons = reasons;
      grown = extends-same path;
    }

-- a list that is worked in place: an entry that stays is written to the front
pub list-kept : (list : List Watch) (kept next : ℕ) (new : Watch) → kept ≤ next → next < length list
    → (take (kept + 1) (set list kept new) ≡ take kept list ++ new ∷ []) × (drop (next + 1) (set list kept new) ≡ drop (next + 1) list)
list-kept list kept next new order within = (take_more_set list kept new (omega arith), drop-set-lt (next + 1) list kept new (omega arith))
