use Rattle.std.proofs.Common.{◌≡◌, sym, subst}
use Rattle.std.proofs.lemmas.Result.{err_from_is_err_and}
use Rattle.cert_theory.specs.declared.answer.CertAnswer.{CertAnswer}
use Rattle.cert_theory.specs.declared.answer.CertAnswer.TheVariants.{Passed}
use Rattle.cert_theory.specs.Texts.{IsAnswer}
use Rattle.psl_tree.specs.Atoms.{AtomsOfFormula}
use Rattle.psl_tree.specs.Names.{AtomInRange}
use Rattle.psl_tree.specs.Trees.{formula_of}
use Rattle.psl_tree.specs.declared.directive.Directive.{Directive}
use Rattle.cert_check.specs.Claims.{asked_of, directive_of, queries_of}
use Rattle.cert_check.proofs.Claiming.{directive_in, moved_header, same_fault, same_limits, whole_answer}
use Rattle.cert_check.proofs.Proving.{is_proved}
use Rattle.cert_check.proofs.checking.check_cert.Goals as goal

pub returns-in-Err-clause-fits : goal.returns-in-Err-clause-fits
returns-in-Err-clause-fits c = λ header directive has is.
    absurd (c.in-Err.ensures.none header
    (moved_header c.asked_of.result (asked_of c.args.unit.now c.args.assertion) c.new-reading.result.rest.now c.args.bytes.now header c.asked_of.ensures c.new-reading.ensures.rest has))

pub check_claim-requires-clause-directive : goal.check_claim-requires-clause-directive
check_claim-requires-clause-directive c =
    directive_in (λ (d : Directive). AtomsOfFormula (AtomInRange c.args.netlist.now.names) (formula_of d.formula)) c.args.unit.now c.args.assertion c.in-Some.directive.now
    c.requires.in_range (sym c.in-Some.ensures)

pub returns-clause-answer : goal.returns-clause-answer
returns-clause-answer c =
    whole_answer c.args.netlist.now c.args.unit.now c.in-Some.directive.now (directive_of c.args.unit.now c.args.assertion) c.asked_of.result
    (asked_of c.args.unit.now c.args.assertion) c.new-reading.result.rest.now c.args.bytes.now c.in-Ok.header c.read_header.new.reading c.in_ok-answer.answer
    (sym c.in-Some.ensures) c.asked_of.ensures c.new-reading.ensures.rest c.in-Ok.ensures.behind c.in_ok-answer.ensures.answer

pub returns-clause-fits : goal.returns-clause-fits
returns-clause-fits c = λ header directive has is.
    same_limits c.args.netlist.now c.args.unit.now c.args.assertion c.asked_of.result c.new-reading.result.rest.now c.args.bytes.now header c.in-Ok.header
    directive c.in-Some.directive.now c.read_header.new.reading c.asked_of.ensures c.new-reading.ensures.rest c.in-Ok.ensures.header c.in-Some.ensures c.in-Ok.ensures.behind
    c.in_ok-answer.ensures.fits has is

pub returns-in_err-answer-clause-fault : goal.returns-in_err-answer-clause-fault
returns-in_err-answer-clause-fault c =
    let p = err_from_is_err_and c.from_residual.result c.from_residual.ensures.1 in
    rw (p.1, p.2) (same_fault c.args.netlist.now c.args.unit.now c.args.assertion c.asked_of.result c.new-reading.result.rest.now c.args.bytes.now c.in-Ok.header
    c.in-Some.directive.now c.read_header.new.reading c.asked_of.ensures c.new-reading.ensures.rest c.in-Ok.ensures.header c.in-Some.ensures
    c.in-Ok.ensures.behind c.in_err-answer.field-0.0 c.in_err-answer.ensures.fault)

pub returns-clause-proved : goal.returns-clause-proved
returns-clause-proved c = λ passed.
    let answered : IsAnswer (asked_of c.args.unit.now c.args.assertion) (queries_of c.args.netlist.now c.args.unit.now c.args.assertion) c.args.bytes.now c.in_ok-answer.answer =
    whole_answer c.args.netlist.now c.args.unit.now c.in-Some.directive.now (directive_of c.args.unit.now c.args.assertion) c.asked_of.result
    (asked_of c.args.unit.now c.args.assertion) c.new-reading.result.rest.now c.args.bytes.now c.in-Ok.header c.read_header.new.reading c.in_ok-answer.answer
    (sym c.in-Some.ensures) c.asked_of.ensures c.new-reading.ensures.rest c.in-Ok.ensures.behind c.in_ok-answer.ensures.answer in
    let is : c.in_ok-answer.answer ≡ Passed = cc in
    is_proved c.args.netlist.now c.args.unit.now c.args.assertion c.in-Some.directive.now c.args.bytes.now (sym c.in-Some.ensures)
    (subst (λ (answer : CertAnswer). IsAnswer (asked_of c.args.unit.now c.args.assertion) (queries_of c.args.netlist.now c.args.unit.now c.args.assertion) c.args.bytes.now answer) is answered)
    c.claim_holds.ensures
