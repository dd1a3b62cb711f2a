use Rattle.std.proofs.Common.{refl, arith}
use Rattle.cert_lines.specs.declared.entries.LineStep.TheVariants as steps
use Rattle.cert_lines.specs.Sections.{Becomes, query_of}
use Rattle.cert_lines.proofs.Sectioning.{entry_next, has_room, none_taken, section_cut, section_ends, section_refused}
use Rattle.cert_lines.proofs.section.check_section.Goals as goal

pub loop-line-init : goal.loop-line-init
loop-line-init c =
    none_taken c.args.header c.args.section (query_of c.args.formula.now) c.args.reading.now c.in_ok-checker.checker
    c.in_ok-checker.ensures.holds c.in_ok-checker.ensures.header c.in_ok-checker.ensures.section c.in_ok-checker.ensures.room

pub returns-in-Err-clause-refused : goal.returns-in-Err-clause-refused
returns-in-Err-clause-refused c =
    section_cut c.args.header c.args.section (query_of c.args.formula.now) c.args.reading.now c.loop-line.reading c.loop-line.checker c.loop-line.invariant
    c.in-Err.refusal c.in-Err.ensures.cut

pub take-requires : goal.take-requires
take-requires c =
    omega (
      arith,
      has_room c.args.header c.args.section (query_of c.args.formula.now) c.args.reading.now c.loop-line.reading c.loop-line.checker c.loop-line.invariant
          c.in-Ok.line.now c.next.new.self c.in-Ok.ensures.line,
    )

pub loop-line-preserved : goal.loop-line-preserved
loop-line-preserved c =
    let query = query_of c.args.formula.now in
    let so_far = c.loop-line.invariant in
    let becomes : Becomes c.loop-line.checker query so_far.entries c.in-Ok.line.now steps.Taken c.take.new.self =
    rw c.in-Taken.is at (c.in_ok-take.ensures.becomes query so_far.entries so_far.holds) in
    entry_next c.args.header c.args.section query c.args.reading.now c.loop-line.reading c.loop-line.checker so_far
    c.in-Ok.line.now c.next.new.self c.take.new.self c.in-Ok.ensures.line becomes c.in_ok-take.ensures.header c.in_ok-take.ensures.section c.in_ok-take.ensures.room

pub returns-in-End-clause-stands : goal.returns-in-End-clause-stands
returns-in-End-clause-stands c = λ none.
    let query = query_of c.args.formula.now in
    let so_far = c.loop-line.invariant in
    let becomes : Becomes c.loop-line.checker query so_far.entries c.in-Ok.line.now steps.End c.take.new.self =
    rw c.in-End.is at (c.in_ok-take.ensures.becomes query so_far.entries so_far.holds) in
    section_ends c.args.header c.args.section query c.args.reading.now c.loop-line.reading c.loop-line.checker so_far
    c.in-Ok.line.now c.next.new.self c.take.new.self c.in-Ok.ensures.line becomes

pub returns-in-Refused-clause-refused : goal.returns-in-Refused-clause-refused
returns-in-Refused-clause-refused c =
    let query = query_of c.args.formula.now in
    let so_far = c.loop-line.invariant in
    let becomes : Becomes c.loop-line.checker query so_far.entries c.in-Ok.line.now (steps.Refused c.in-Refused.reason) c.take.new.self =
    rw c.in-Refused.is at (c.in_ok-take.ensures.becomes query so_far.entries so_far.holds) in
    section_refused c.args.header c.args.section query c.args.reading.now c.loop-line.reading c.loop-line.checker so_far
    c.in-Ok.line.now c.next.new.self c.take.new.self c.in-Refused.reason _ c.in-Ok.ensures.line becomes refl refl
