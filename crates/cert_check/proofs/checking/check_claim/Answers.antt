use Rattle.std.proofs.Common.{subst}
use Rattle.std.proofs.lemmas.Result.{err_from_is_err_and}
use Rattle.cert_check.proofs.Claiming.{answers_behind, fault_behind, fits_behind}
use Rattle.alternating_theory.specs.Obligations.{Automaton}
use Rattle.run_terms.specs.Automata.{IsSound, TestsSignals}
use Rattle.cert_check.proofs.checking.check_claim.Goals as goal

pub returns-in_err-answer-clause-fault : goal.returns-in_err-answer-clause-fault
returns-in_err-answer-clause-fault c =
    let unit = c.args.claim.unit.now in
    let p = err_from_is_err_and c.from_residual-in_err-answer.result c.from_residual-in_err-answer.ensures.1 in
    rw (p.1, p.2) (fault_behind c.args.claim.netlist.now unit c.args.claim.directive.now c.in_ok-violation.violation c.in_ok-violation.ensures.automaton c.args.header
    (c.in_ok-check_sizes.ensures.sized unit c.in_ok-assumed.ensures) c.args.reading.now c.in_err-answer.field-0.0 c.in_err-answer.ensures.fault)

pub returns-clause-answer : goal.returns-clause-answer
returns-clause-answer c =
    let unit = c.args.claim.unit.now in
    answers_behind c.args.claim.netlist.now unit c.args.claim.directive.now c.in_ok-violation.violation c.in_ok-violation.ensures.automaton c.args.header
    (c.in_ok-check_sizes.ensures.sized unit c.in_ok-assumed.ensures) c.args.reading.now c.in_ok-answer.answer c.in_ok-answer.ensures.answer

pub returns-clause-fits : goal.returns-clause-fits
returns-clause-fits c =
    let unit = c.args.claim.unit.now in
    fits_behind c.args.claim.netlist.now unit c.args.claim.directive.now c.in_ok-violation.violation c.in_ok-violation.ensures.automaton c.args.header
    (c.in_ok-check_sizes.ensures.sized unit c.in_ok-assumed.ensures) c.args.reading.now c.in_ok-answer.ensures.fits

pub returns-clause-sound : goal.returns-clause-sound
returns-clause-sound c = subst IsSound c.in_ok-violation.ensures.automaton c.automaton_law.ensures

pub check_lines-requires-clause-tests : goal.check_lines-requires-clause-tests
check_lines-requires-clause-tests c = c.in_ok-violation.ensures.in_range c.args.claim.netlist.now.names c.requires.unit c.requires.directive

pub returns-clause-tests : goal.returns-clause-tests
returns-clause-tests c =
    subst (λ (automaton : Automaton). TestsSignals c.args.claim.netlist.now automaton) c.in_ok-violation.ensures.automaton
    (c.in_ok-violation.ensures.in_range c.args.claim.netlist.now.names c.requires.unit c.requires.directive)
