use Rattle.std.proofs.Common.{◌≡◌, subst, ℕ, ℤ, List}
use Rattle.std.specs.Prelude.{IfOk}
use Rattle.joint.specs.Joined.{Joined}
use Rattle.joint_theory.specs.Reaching.{query_relative, relative_variables, EntersBy, StandsForTwo}
use Rattle.joint.proofs.Asked.{stands-of}
use Rattle.joint.proofs.joined.Joint.query_relative.Goals as goal

pub returns-clause-stands : goal.returns-clause-stands
returns-clause-stands c =
    let frame = c.args.frame.now in
    let initial = c.args.initial in
    let cube = c.args.cube.now in
    let j = c.args.self.now in
    stands-of (λ (variables : ℕ) (clauses : List (List ℤ)). StandsForTwo j.design j.automaton j.visits variables clauses (EntersBy j.design j.automaton j.visits frame initial cube))
    (relative_variables j.design j.automaton j.visits) (query_relative j.design j.automaton j.visits frame initial cube) c.relative_of.result
    (subst (λ (j : Joined). IfOk c.relative_of.result (λ cnf. cnf.variables ≡ relative_variables j.design j.automaton j.visits))
    c.self.view_is c.relative_of.ensures.variables)
    (subst (λ (j : Joined). IfOk c.relative_of.result (λ cnf. cnf.clauses ≡ query_relative j.design j.automaton j.visits frame initial cube))
    c.self.view_is c.relative_of.ensures.clauses)
    (c.reach_law.ensures.relative j.design j.automaton j.visits frame initial cube c.facts.ensures.netlist c.facts.ensures.automaton c.facts.ensures.tests c.requires.frame c.requires.cube)
