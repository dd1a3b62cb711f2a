use Rattle.std.specs.Option.{IfSome}
use Rattle.cert_theory.specs.declared.header.Section.TheVariants.{Initial}
use Rattle.cert_theory.specs.Sections.{Query}
use Rattle.cert_lines.specs.Sections.{IsRefusedIn}
use Rattle.std.proofs.Common.{sym, subst}
use Rattle.cert_check.specs.Claims.{initial_query}
use Rattle.cert_check.proofs.Inducing.{section_stands}
use Rattle.cert_check.proofs.Sizes.{initial_fault, initial_of, small_of, query_is}
use Rattle.cert_check.proofs.clausal.check_initial.Goals as goal

pub returns-in-Err-clause-fault : goal.returns-in-Err-clause-fault
returns-in-Err-clause-fault c =
    rw c.of_formula.ensures (initial_fault c.args.joint.now c.args.clauses.now c.in-Err.fault c.in-Err.ensures.large)

pub returns-clause-stands : goal.returns-clause-stands
returns-clause-stands c = λ none.
    section_stands c.args.header Initial (initial_query c.args.joint.now.design c.args.joint.now.automaton c.args.joint.now.visits c.args.clauses.now) c.in-Ok.initial
    (initial_of c.args.joint.now c.args.clauses.now c.in-Ok.initial c.in-Ok.ensures.variables c.in-Ok.ensures.clauses)
    c.args.reading.now c.check_section.new.reading (c.in_ok-refusal.ensures.stands none)

pub returns-clause-refused : goal.returns-clause-refused
returns-clause-refused c =
    subst (λ (query : Query). IfSome c.in_ok-refusal.refusal (IsRefusedIn c.args.header Initial query c.args.reading.now))
    (sym (query_is (initial_query c.args.joint.now.design c.args.joint.now.automaton c.args.joint.now.visits c.args.clauses.now) c.in-Ok.initial
    (initial_of c.args.joint.now c.args.clauses.now c.in-Ok.initial c.in-Ok.ensures.variables c.in-Ok.ensures.clauses)))
    c.in_ok-refusal.ensures.refused

pub returns-clause-small : goal.returns-clause-small
returns-clause-small c =
    small_of (initial_query c.args.joint.now.design c.args.joint.now.automaton c.args.joint.now.visits c.args.clauses.now) c.in-Ok.initial
    (initial_of c.args.joint.now c.args.clauses.now c.in-Ok.initial c.in-Ok.ensures.variables c.in-Ok.ensures.clauses) c.formula_is_small.ensures
