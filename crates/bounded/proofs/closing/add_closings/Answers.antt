use Rattle.std.proofs.Common.{arith}
use Rattle.std.proofs.lemmas.Result.{err_from_is_err_and}
use Rattle.clauses.specs.declared.flat.TheConstants.{MOST_WORDS}
use Rattle.clauses.specs.Literals.{clause_words}
use Rattle.bounded.specs.Adding.{closed_in}
use Rattle.bounded.proofs.Additions.{words-grow}
use Rattle.bounded.proofs.Appending.{left-end, left-fail, left-start, left-step}
use Rattle.bounded.proofs.closing.add_closings.Goals as goal

pub loop-place-init : goal.loop-place-init
loop-place-init c =
    let places = c.args.places.now in
    left-start clause_words MOST_WORDS words-grow (closed_in places.automaton.now c.args.frames.now c.args.signals.now places.last places.before) places.last c.args.clauses.now

pub loop-place-preserved : goal.loop-place-preserved
loop-place-preserved c =
    let places = c.args.places.now in
    left-step clause_words MOST_WORDS words-grow (closed_in places.automaton.now c.args.frames.now c.args.signals.now places.last places.before) places.last c.args.clauses.now
    c.loop-place.clauses c.add_closing.new.clauses c.loop-place.place (omega arith) c.loop-place.invariant c.in_ok-add_closing.ensures

pub returns-in_err-add_closing : goal.returns-in_err-add_closing
returns-in_err-add_closing c =
    let places = c.args.places.now in
    let p = err_from_is_err_and c.from_residual.result c.from_residual.ensures.1 in
    rw (p.1, p.2) (left-fail clause_words MOST_WORDS words-grow (closed_in places.automaton.now c.args.frames.now c.args.signals.now places.last places.before) places.last c.args.clauses.now
    c.loop-place.clauses c.add_closing.new.clauses c.loop-place.place c.in_err-add_closing.field-0.0 (omega arith) c.loop-place.invariant c.in_err-add_closing.ensures)

pub returns : goal.returns
returns c =
    let places = c.args.places.now in
    left-end clause_words MOST_WORDS words-grow (closed_in places.automaton.now c.args.frames.now c.args.signals.now places.last places.before) places.last c.args.clauses.now
    c.loop-place.clauses c.loop-place.place (omega arith) (omega arith) c.loop-place.invariant
