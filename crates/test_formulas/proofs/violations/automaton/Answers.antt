use Rattle.std.proofs.Common.{List, sym, subst}
use Rattle.alternating.proofs.Tested.{built-has}
use Rattle.alternating_theory.specs.Atoms.{AtomsOfObligations}
use Rattle.alternating_theory.specs.Built.{built}
use Rattle.alternating_theory.specs.Obligations.{Automaton}
use Rattle.psl_tree.specs.Names.{AtomInRange}
use Rattle.psl_tree.specs.Trees.{formula_of}
use Rattle.psl_tree.specs.declared.name.Name.{Name}
use Rattle.test_formulas.proofs.violations.automaton.Goals as goal

pub returns-in-Ok : goal.returns-in-Ok
returns-in-Ok c =
    let formula = c.in_ok-formula.formula in
    subst (λ (a : Automaton). AtomsOfObligations (AtomInRange c.args.netlist.now.names) a.obligations) (sym c.in-Ok.ensures.built)
    (subst (λ (names : List Name). AtomsOfObligations (AtomInRange names) (built (formula_of formula)).obligations) c.names.ensures.names
    (built-has (AtomInRange c.names.result.now) (formula_of formula) (c.are_in_range.ensures.0 c.if-not-are_in_range.false)))
