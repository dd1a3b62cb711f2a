use Rattle.std.proofs.Common.{◌≡◌, subst, true}
use Rattle.std.specs.Prelude.{IfOk, IfErr}
use Rattle.gates_theory.specs.Sizes.{IsTooLarge}
use Rattle.clauses.specs.declared.flat.CnfFault.{CnfFault}
use Rattle.joint.specs.Joined.{Joined}
use Rattle.joint_theory.specs.Paths.{SomeOpen}
use Rattle.joint_theory.specs.Queries.{base, base_variables}
use Rattle.joint_theory.proofs.Queries.{query-models}
use Rattle.joint.proofs.Asked.{models-of}
use Rattle.joint.proofs.joined.Joint.base.Goals as goal

pub returns-clause-clauses : goal.returns-clause-clauses
returns-clause-clauses c =
    subst (λ (j : Joined). IfOk c.base_of.result (λ cnf. cnf.clauses ≡ base j.design j.automaton j.visits c.args.window))
    c.self.view_is c.base_of.ensures.clauses

pub returns-clause-large : goal.returns-clause-large
returns-clause-large c =
    subst (λ (j : Joined). IfErr c.base_of.result (λ fault. fault ≡ CnfFault.TooLarge
    → IsTooLarge (base_variables j.design j.automaton j.visits c.args.window) (base j.design j.automaton j.visits c.args.window)))
    c.self.view_is c.base_of.ensures.large

pub returns-clause-models : goal.returns-clause-models
returns-clause-models c =
    let product = c.self.inside.product in
    let design = product.netlist.now in
    let automaton = product.violation.now in
    rw (← c.self.view_is)
    (models-of (SomeOpen design automaton product.visits c.args.window true) (base_variables design automaton product.visits c.args.window) (base design automaton product.visits c.args.window) c.base_of.result
    c.base_of.ensures.variables c.base_of.ensures.clauses
    (query-models design automaton product.visits c.args.window c.circuit_is_sound.ensures.netlist c.circuit_is_sound.ensures.automaton c.self.invariant.tests true))
