use Rattle.std.proofs.lemmas.List.{nil_from_length}
use Rattle.clause_text.specs.Words.{Begins}
use Rattle.clause_text.proofs.Once.{no_lemma, is_lemma_line}
use Rattle.clause_text.proofs.words.read_lemma.Goals as goal

pub returns-in_default-split_first : goal.returns-in_default-split_first
returns-in_default-split_first c = λ others more some is.
    let begins : Begins c.args.line.now c.in-Some.behind.now c.read_literals.new.literals.items = rw c.in-Some.is at c.in_ok-behind.ensures in
    let none = nil_from_length c.in-Some.behind.now c.in_default-split_first.ensures.cases in
    no_lemma c.args.line.now c.read_literals.new.literals.items others more (rw none at begins) some is

pub returns : goal.returns
returns c =
    let begins : Begins c.args.line.now c.in-Some.behind.now c.read_literals.new.literals.items = rw c.in-Some.is at c.in_ok-behind.ensures in
    let split = c.in-Some-split_first.ensures.cases.0 in
    is_lemma_line c.args.line.now c.in-Some-split_first.second.now c.in-Some-split_first.field-0-0.now c.read_literals.new.literals.items c.read_hints.new.hints.items c.in_ok-all.all (rw split at begins) c.in_ok-all.ensures
