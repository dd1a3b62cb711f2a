use Rattle.std.proofs.Common.{[], List, ℕ, sym, ap, ◌∙◌, eqb, length, map, pos}
use Rattle.std.proofs.lemmas.Bool.{false≢true, eqb-true}
use Rattle.std.proofs.lemmas.List.{nil_from_length}
use Rattle.clause_text.specs.Words.{Begins}
use Rattle.clause_text.proofs.Once.{no_hints_behind, are_hints, hints_begin}
use Rattle.clause_text.proofs.words.read_hints.Goals as goal

pub returns-in_default : goal.returns-in_default
returns-in_default c = λ others all is.
    let none = rw c.in_default.is at c.in_ok-end.ensures in
    none [] (map (λ n. pos n) others) (hints_begin c.args.text.now others all is)

pub returns-then-not-is_empty : goal.returns-then-not-is_empty
returns-then-not-is_empty c = λ others all is.
    let begins : Begins c.args.text.now c.in-Some.end.now c.read_literals.new.literals.items = rw c.in-Some.is at c.in_ok-end.ensures in
    no_hints_behind c.args.text.now c.in-Some.end.now c.read_literals.new.literals.items others begins (λ none. false≢true (c.if-not-is_empty.ensures ∙ ap (λ (xs : List ℕ). eqb (length xs) 0) none)) all is

pub returns : goal.returns
returns c =
    let begins : Begins c.args.text.now c.in-Some.end.now c.read_literals.new.literals.items = rw c.in-Some.is at c.in_ok-end.ensures in
    are_hints c.args.text.now c.in-Some.end.now c.read_literals.new.literals.items c.as_numbers.new.numbers.items c.in_ok-are.are begins (nil_from_length c.in-Some.end.now (eqb-true (length c.in-Some.end.now) 0 (sym c.if-not-is_empty.ensures))) (rw c.deref.ensures.value at c.in_ok-are.ensures)
