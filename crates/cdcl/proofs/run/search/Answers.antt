use Rattle.std.proofs.Common.{◌≡◌, ◌<◌, ◌++◌, ◌∷◌, [], ap, ◌∙◌, subst, arith}
use Rattle.clauses.specs.declared.cnf.Cnf.{Cnf}
use Rattle.clauses.specs.Logs.{log_words}
use Rattle.clauses.specs.Logs.LogEntry.{Lemma}
use Rattle.cdcl.specs.Answers.{IsFull, IsSpent}
use Rattle.cdcl.proofs.Stepping.{spent_of, full_of}
use Rattle.cdcl.proofs.run.search.Goals as goal

pub returns-then-words-gt-FULL_LOG_WORDS : goal.returns-then-words-gt-FULL_LOG_WORDS
returns-then-words-gt-FULL_LOG_WORDS c =
    let learning = rw c.if-branch.false at c.in_ok-learn.ensures in
    let keeps = c.in_ok-conflict.ensures.keeps in
    let before = c.loop-alloc.solver.log in
    let new = c.learn.new.self in
    let log : new.log ≡ before ++ Lemma learning.literals learning.hints ∷ [] = learning.log ∙ ap (λ l. l ++ Lemma learning.literals learning.hints ∷ []) keeps.log in
    let formula = ap (λ f. f.now) (learning.formula ∙ keeps.formula ∙ c.loop-alloc.invariant.formula) in
    let P : Cnf → Type 0 = λ cnf. IsFull cnf c.args.steps (before ++ Lemma learning.literals learning.hints ∷ []) in
    let past : 100000000 < log_words (before ++ Lemma learning.literals learning.hints ∷ []) = omega (arith, c.if-words-gt-FULL_LOG_WORDS.true, c.words.ensures.is, ap log_words log) in
    rw (c.into_log-then-words-gt-FULL_LOG_WORDS.ensures, log)
    (subst P formula
    (full_of new.formula.now c.args.steps new.propagator.clauses before learning.literals learning.hints (omega (arith, c.loop-alloc-test.true, c.lemmas.ensures)) c.loop-alloc.invariant.few (rw log at learning.ready.logged) past))

pub returns : goal.returns
returns c =
    let solver = c.loop-alloc.solver in
    let invariant = c.loop-alloc.invariant in
    let P : Cnf → Type 0 = λ cnf. IsSpent cnf c.args.steps solver.log in
    rw c.into_log-2.ensures
    (subst P (ap (λ f. f.now) invariant.formula)
    (spent_of solver.formula.now c.args.steps solver.propagator.clauses solver.log invariant.ready.logged (omega (arith, invariant.steps, c.loop-alloc-test.false, c.lemmas.ensures)) invariant.few))
