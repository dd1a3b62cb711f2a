-- What a look at an entry finds.
use Rattle.std.proofs.Common.{◌≡◌, Bool, true, false, ℕ, ◌*◌, ◌<◌, List, length, Some, ◌⊎◌, inl, inr, sym}
use Rattle.std.specs.List.{Contains}
use Rattle.std.proofs.lemmas.List.Elements.{All-weaker}
use Rattle.clauses.specs.Live.{Numbered, clause_of}
use Rattle.cdcl_trail.specs.Literals.{opposite}
use Rattle.cdcl_trail.specs.Path.{Path}
use Rattle.cdcl_propagation.specs.declared.watch.Pair.{Pair}
use Rattle.cdcl_propagation.specs.declared.watch.Watch.{Watch}
use Rattle.cdcl_propagation.specs.declared.watch.Visit.{Visit}
use Rattle.cdcl_propagation.specs.declared.watch.Visit.TheVariants as look
use Rattle.cdcl_propagation.specs.State.{IsConflict}
use Rattle.cdcl_propagation.specs.Watching.{pair_of, IsPairOf, IsPaired, IsEntry, IsShort}
use Rattle.cdcl_propagation.specs.Visits.{IsForced, Says}

-- a test that failed
pub never : (test : Bool) → test ≡ true → test ≡ false → ⊥
never test is is_not = cc

conflict : (clauses : Numbered ℕ) (path : Path) (number literal : ℕ) → IsForced clauses path number literal → Contains path.literals (opposite literal) → IsConflict clauses path number
conflict clauses path number literal is falsified = record {
  clause = is.clause;
  live = is.live;
  false_ = All-weaker (λ other. (other ≡ literal) ⊎ Contains path.literals (opposite other)) (λ other. Contains path.literals (opposite other)) (λ other either. elim either [ inl same ↦ rw same falsified | inr false_too ↦ false_too ]) is.clause is.others;
}

-- what follows where all literals but the blocker are false, and the blocker is not true
pub forced : (clauses : Numbered ℕ) (pairs : List Pair) (path : Path) (literal : ℕ) (old new : Watch) (found : Visit) → new.number ≡ old.number
    → IsEntry clauses (length pairs) (2 * path.variables) literal new → IsForced clauses path old.number new.blocker → (Contains path.literals new.blocker → ⊥)
    → ((found ≡ look.Conflict) × Contains path.literals (opposite new.blocker)) ⊎ ((found ≡ look.Force new) × (Contains path.literals (opposite new.blocker) → ⊥))
    → Says clauses pairs path literal old found
forced clauses pairs path literal old new found number entry is not_true (inl both) = rw both.0 (conflict clauses path old.number new.blocker is both.1)
forced clauses pairs path literal old new found number entry is not_true (inr both) =
    rw both.0 record { number = number; entry = entry; forced = is; not_true = not_true; not_false = both.1 }

-- a short clause in the list of a false literal
pub short_forced : (clauses : Numbered ℕ) (path : Path) (literal : ℕ) (watch : Watch) (size codes : ℕ) → IsEntry clauses size codes literal watch → IsShort clauses literal watch → Contains path.literals (opposite literal)
    → IsForced clauses path watch.number watch.blocker
short_forced clauses path literal watch size codes entry short falsified = record {
  clause = short.clause;
  live = short.live;
  stands = entry.blocks short.clause short.live;
  others = All-weaker (λ other. (other ≡ literal) ⊎ (other ≡ watch.blocker)) (λ other. (other ≡ watch.blocker) ⊎ Contains path.literals (opposite other)) (λ other either. elim either [ inl same ↦ inr (rw same falsified) | inr is ↦ inl is ]) short.clause short.others;
}

-- the other of two watched literals stands in the clause, and is within
pub other_stands : (clauses : Numbered ℕ) (pairs : List Pair) (codes number literal other : ℕ) → IsPaired clauses pairs codes → IsPairOf (pair_of pairs number) literal other
    → (clause : List ℕ) → clause_of clauses number ≡ Some clause → Contains clause other
other_stands clauses pairs codes number literal other paired (inl both) clause live = rw (sym both.1) (paired.second number clause live)
other_stands clauses pairs codes number literal other paired (inr both) clause live = rw (sym both.0) (paired.first number clause live)

pub other_within : (clauses : Numbered ℕ) (pairs : List Pair) (codes number literal other : ℕ) → IsPaired clauses pairs codes → IsPairOf (pair_of pairs number) literal other → 0 < number → number < length pairs → other < codes
other_within clauses pairs codes number literal other paired (inl both) some below = rw (sym both.1) (paired.within number some below).1
other_within clauses pairs codes number literal other paired (inr both) some below = rw (sym both.0) (paired.within number some below).0

-- an entry with the other watched literal as its blocker, of a clause of more than two literals
pub other_entry : (clauses : Numbered ℕ) (pairs : List Pair) (codes literal other : ℕ) (watch : Watch) → IsPaired clauses pairs codes → IsPairOf (pair_of pairs watch.number) literal other
    → watch.is_short ≡ false → IsEntry clauses (length pairs) codes literal watch → IsEntry clauses (length pairs) codes literal record { number = watch.number; blocker = other; is_short = watch.is_short }
other_entry clauses pairs codes literal other watch paired is long entry = record {
  some = entry.some;
  number = entry.number;
  within = other_within clauses pairs codes watch.number literal other paired is entry.some entry.number;
  blocks = other_stands clauses pairs codes watch.number literal other paired is;
  short = λ short. absurd (never watch.is_short short long);
}
