-- What the check of a whole log answers.
use Rattle.std.specs.Prelude.{◌≡◌, ◌⊎◌, ℕ, Bool, true, false, List, length, cond, nat_le}
use Rattle.clauses.specs.declared.cnf.Cnf.{Cnf}
use Rattle.clauses.specs.Logs.{LogEntry, Refutes as RefutesBy, FailsAt, ShowsNothing}
use Rattle.clauses.specs.Logs.LogEntry.{Lemma, Forget}
use Rattle.clause_log.specs.declared.answer.LogAnswer.{LogAnswer}
use Rattle.clause_log.specs.declared.answer.LogAnswer.TheVariants.{Refutes, Fails, NoEmpty}
use Rattle.clause_log.specs.Checking.{Checking, PassesNow, with_lemma, without_lemma}

-- the answer to a log of a formula
abbrev pub IsAnswer : Cnf → List LogEntry → LogAnswer → Type 0
IsAnswer cnf log Refutes = RefutesBy cnf.variables cnf.clauses log
IsAnswer cnf log (Fails lemma) = FailsAt cnf.variables cnf.clauses log lemma
IsAnswer cnf log NoEmpty = ShowsNothing cnf.variables cnf.clauses log

-- a drop, which takes out a lemma that is live, and nothing else
abbrev pub after_drop : Checking → ℕ → Checking
after_drop state number = cond (nat_le number (length state.formula)) state (without_lemma state number)

-- an entry passes, behind an empty lemma or not
abbrev pub GoesOn : Bool → Checking → LogEntry → Bool → Checking → Type 0
GoesOn ended old (Lemma literals hints) true new = (ended ≡ false) × PassesNow old literals hints × (new ≡ with_lemma old literals)
GoesOn ended old (Lemma literals hints) false new = (ended ≡ true) ⊎ (PassesNow old literals hints → ⊥)
GoesOn ended old (Forget number) true new = new ≡ after_drop old number
GoesOn ended old (Forget number) false new = ⊥
