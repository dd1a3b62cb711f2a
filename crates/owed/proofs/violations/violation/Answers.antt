use Rattle.psl_tree.specs.Trees.{formula_of}
use Rattle.owed.proofs.Answering.{dual-is, dual-loops, dual-in_range}
use Rattle.owed.proofs.violations.violation.Goals as goal

pub returns-in-Ok-clause-loops : goal.returns-in-Ok-clause-loops
returns-in-Ok-clause-loops c = dual-loops c.in_ok-dual-in-Ok.dual c.args.unit.now c.args.directive.now
    (dual-is c.in-Ok.automaton c.in_ok-dual-in-Ok.dual (formula_of c.in_ok-formula.formula) c.args.unit.now c.args.directive.now
    c.in_ok-dual-in-Ok.ensures.dual c.in-Ok.ensures.built c.in_ok-formula.ensures.formula)

pub returns-in-Ok-clause-in_range : goal.returns-in-Ok-clause-in_range
returns-in-Ok-clause-in_range c = dual-in_range c.in_ok-dual-in-Ok.dual c.args.unit.now c.args.directive.now
    (dual-is c.in-Ok.automaton c.in_ok-dual-in-Ok.dual (formula_of c.in_ok-formula.formula) c.args.unit.now c.args.directive.now
    c.in_ok-dual-in-Ok.ensures.dual c.in-Ok.ensures.built c.in_ok-formula.ensures.formula)
