use Rattle.std.proofs.Common.{refl, arith}
use Rattle.cert_lines.specs.declared.entries.LineStep.TheVariants as steps
use Rattle.cert_lines.specs.Clauses.{BecomesClause}
use Rattle.cert_lines.proofs.Clausing.{all_within, clause_next, clause_refused, clauses_cut, clauses_end, has_room, none_cut, none_read, none_refused}
use Rattle.cert_lines.proofs.clause_lines.read_clauses.Goals as goal

pub loop-line-init : goal.loop-line-init
loop-line-init c = rw c.new-clauses.ensures (none_read c.args.width c.args.reading.now)

pub returns-in-Err-clause-refused : goal.returns-in-Err-clause-refused
returns-in-Err-clause-refused c =
    clauses_cut c.args.width c.args.reading.now c.loop-line.reading c.loop-line.clauses c.loop-line.invariant c.in-Err.refusal c.in-Err.ensures.cut

pub take_clause-requires : goal.take_clause-requires
take_clause-requires c =
    omega (
      arith,
      has_room c.args.width c.args.reading.now c.loop-line.reading c.loop-line.clauses c.loop-line.invariant c.in-Ok.line.now c.next.new.self c.in-Ok.ensures.line,
    )

pub loop-line-preserved : goal.loop-line-preserved
loop-line-preserved c =
    let becomes : BecomesClause c.args.width c.loop-line.clauses c.in-Ok.line.now steps.Taken c.take_clause.new.clauses =
    rw c.in-Taken.is at c.in_ok-take_clause.ensures.becomes in
    clause_next c.args.width c.args.reading.now c.loop-line.reading c.loop-line.clauses c.loop-line.invariant
    c.in-Ok.line.now c.next.new.self c.take_clause.new.clauses c.in-Ok.ensures.line becomes c.in_ok-take_clause.ensures.room

pub returns-in-End-clause-clauses : goal.returns-in-End-clause-clauses
returns-in-End-clause-clauses c =
    let becomes : BecomesClause c.args.width c.loop-line.clauses c.in-Ok.line.now steps.End c.take_clause.new.clauses =
    rw c.in-End.is at c.in_ok-take_clause.ensures.becomes in
    clauses_end c.args.width c.args.reading.now c.loop-line.reading c.loop-line.clauses c.loop-line.invariant
    c.in-Ok.line.now c.next.new.self c.take_clause.new.clauses c.in-Ok.ensures.line becomes

pub returns-in-End-clause-within : goal.returns-in-End-clause-within
returns-in-End-clause-within c =
    let becomes : BecomesClause c.args.width c.loop-line.clauses c.in-Ok.line.now steps.End c.take_clause.new.clauses =
    rw c.in-End.is at c.in_ok-take_clause.ensures.becomes in
    all_within c.args.width c.args.reading.now c.loop-line.reading c.loop-line.clauses c.loop-line.invariant
    c.in-Ok.line.now c.take_clause.new.clauses becomes

pub returns-in-Refused-clause-refused : goal.returns-in-Refused-clause-refused
returns-in-Refused-clause-refused c =
    let becomes : BecomesClause c.args.width c.loop-line.clauses c.in-Ok.line.now (steps.Refused c.in-Refused.reason) c.take_clause.new.clauses =
    rw c.in-Refused.is at c.in_ok-take_clause.ensures.becomes in
    clause_refused c.args.width c.args.reading.now c.loop-line.reading c.loop-line.clauses c.loop-line.invariant
    c.in-Ok.line.now c.next.new.self c.in-Refused.reason _ c.in-Ok.ensures.line becomes refl refl

pub returns-in-Err-clause-none : goal.returns-in-Err-clause-none
returns-in-Err-clause-none c =
    none_cut c.args.width c.args.reading.now c.loop-line.reading c.loop-line.clauses c.loop-line.invariant c.in-Err.refusal c.in-Err.ensures.cut

pub returns-in-Refused-clause-none : goal.returns-in-Refused-clause-none
returns-in-Refused-clause-none c =
    let becomes : BecomesClause c.args.width c.loop-line.clauses c.in-Ok.line.now (steps.Refused c.in-Refused.reason) c.take_clause.new.clauses =
    rw c.in-Refused.is at c.in_ok-take_clause.ensures.becomes in
    none_refused c.args.width c.args.reading.now c.loop-line.reading c.loop-line.clauses c.loop-line.invariant
    c.in-Ok.line.now c.next.new.self c.in-Refused.reason (record { reason = c.in-Refused.reason; line = c.loop-line.reading.line }) c.in-Ok.ensures.line becomes refl refl
