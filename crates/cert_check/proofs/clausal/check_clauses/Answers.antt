use Rattle.std.proofs.Common.{ap, inl, sym, subst, []}
use Rattle.std.specs.Bool.{IsTrue}
use Rattle.std.proofs.lemmas.Result.{err_from_is_err_and}
use Rattle.clauses.specs.Literals.{clauses_within}
use Rattle.cert_theory.specs.Phases.Phase.{InSection}
use Rattle.cert_theory.specs.declared.header.Section.TheVariants.{Initial}
use Rattle.joint.specs.Joined.{Joined}
use Rattle.joint_theory.specs.Bits.{joint_width}
use Rattle.cert_check.specs.Claims.{AnswersAt}
use Rattle.cert_check.specs.Limits.{AreClausesTooLarge, IsBadLarge, IsInitialLarge, IsStepLarge}
use Rattle.cert_check.proofs.Inducing.{joined_fault}
use Rattle.cert_check.proofs.Sizes.{formula_fault, none_large}
use Rattle.cert_check.proofs.clausal.check_clauses.Goals as goal

pub returns-in-Err-clause-fault : goal.returns-in-Err-clause-fault
returns-in-Err-clause-fault c =
    rw c.of_formula.ensures (formula_fault (AreClausesTooLarge c.args.netlist.now c.args.violation.now c.args.header.visits c.args.clauses.now) c.in-Err.fault
    (λ is. inl (c.in-Err.ensures.large is)))

pub later_formulas_are_small-requires : goal.later_formulas_are_small-requires
later_formulas_are_small-requires c = record {
  within = subst (λ (j : Joined). IsTrue (clauses_within (joint_width j.design j.automaton j.visits) c.args.clauses.now)) (sym c.in-Ok.ensures.is) c.requires.within;
}

pub returns-in_err-later_formulas_are_small-clause-fault : goal.returns-in_err-later_formulas_are_small-clause-fault
returns-in_err-later_formulas_are_small-clause-fault c =
    let p = err_from_is_err_and c.from_residual.result c.from_residual.ensures.1 in
    rw (p.1, p.2) (joined_fault c.args.netlist.now c.args.violation.now c.args.header.visits c.args.clauses.now c.in-Ok.joint c.in-Ok.ensures.is
    c.in_err-later_formulas_are_small.field-0.0 c.in_err-later_formulas_are_small.ensures.fault)

pub check_logs-requires-clause-within : goal.check_logs-requires-clause-within
check_logs-requires-clause-within c =
    subst (λ (j : Joined). IsTrue (clauses_within (joint_width j.design j.automaton j.visits) c.args.clauses.now)) (sym c.in-Ok.ensures.is) c.requires.within

pub check_logs-requires-clause-visits : goal.check_logs-requires-clause-visits
check_logs-requires-clause-visits c = ap (λ (j : Joined). j.visits) c.in-Ok.ensures.is

pub returns-in_err-answer-clause-fault : goal.returns-in_err-answer-clause-fault
returns-in_err-answer-clause-fault c =
    let p = err_from_is_err_and c.from_residual-in_err-answer.result c.from_residual-in_err-answer.ensures.1 in
    rw (p.1, p.2) (joined_fault c.args.netlist.now c.args.violation.now c.args.header.visits c.args.clauses.now c.in-Ok.joint c.in-Ok.ensures.is
    c.in_err-answer.field-0.0 c.in_err-answer.ensures.fault)

pub returns-clause-answer : goal.returns-clause-answer
returns-clause-answer c =
    subst (λ (j : Joined). AnswersAt j.design j.automaton (InSection c.args.header c.args.clauses.now Initial []) c.args.reading.now c.in_ok-answer.answer)
    c.in-Ok.ensures.is c.in_ok-answer.ensures.answer

pub returns-clause-fits : goal.returns-clause-fits
returns-clause-fits c =
    none_large c.args.netlist.now c.args.violation.now c.args.header.visits c.args.clauses.now c.in-Ok.ensures.few
    (subst (λ (j : Joined). IsInitialLarge j.design j.automaton j.visits c.args.clauses.now → ⊥) c.in-Ok.ensures.is c.in_ok-answer.ensures.initial)
    (subst (λ (j : Joined). IsStepLarge j.design j.automaton j.visits c.args.clauses.now → ⊥) c.in-Ok.ensures.is c.in_ok-later_formulas_are_small.ensures.step)
    (subst (λ (j : Joined). IsBadLarge j.design j.automaton j.visits c.args.clauses.now → ⊥) c.in-Ok.ensures.is c.in_ok-later_formulas_are_small.ensures.bad)
