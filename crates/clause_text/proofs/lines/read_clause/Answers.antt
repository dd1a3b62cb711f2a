use Rattle.std.proofs.Common.{◌∙◌, ap, eqb, length, ℕ, List}
use Rattle.std.proofs.lemmas.Bool.{false≢true}
use Rattle.clause_text.specs.Words.{Begins}
use Rattle.clause_text.proofs.Once.{no_clause, no_list}
use Rattle.clause_text.proofs.lines.read_clause.Goals as goal

pub returns-in_default-clause-none : goal.returns-in_default-clause-none
returns-in_default-clause-none c = λ literals within is.
    no_list c.args.line.now literals (rw c.in_default.is at c.in_ok-behind.ensures) within is

pub returns-else-is_empty-clause-none : goal.returns-else-is_empty-clause-none
returns-else-is_empty-clause-none c = λ literals within is.
    let begins : Begins c.args.line.now c.in-Some.behind.now c.read_literals.new.literals.items = rw c.in-Some.is at c.in_ok-behind.ensures in
    no_clause c.args.line.now c.in-Some.behind.now c.read_literals.new.literals.items literals begins
    (λ none. false≢true (c.if-is_empty.ensures ∙ ap (λ (xs : List ℕ). eqb (length xs) 0) none)) within is
