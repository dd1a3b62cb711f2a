use Rattle.psl_tree.specs.Trees.{Not}
use Rattle.alternating_theory.specs.LoopLaws.{LoopsOf}
use Rattle.alternating_theory.proofs.LoopLawsHold.{loops}
use Rattle.alternating_theory.specs.Laws.{ValuesOf, NamesOf, SizeOf}
use Rattle.alternating_theory.proofs.LawsHold.{values, names}
use Rattle.alternating_theory.specs.Atoms.{KeepsAtoms}
use Rattle.alternating.proofs.Duals.{of-negation, negation-size}
use Rattle.alternating.proofs.Tested.{keeps-atoms}
use Rattle.alternating.proofs.automaton.Alternating.dual.Goals as goal

pub returns-clause-values : goal.returns-clause-values
returns-clause-values c = of-negation (λ a f. ValuesOf a (Not f)) (λ f plain. values (Not f) plain) _ _ c.in_ok-dual.ensures

pub returns-clause-loops : goal.returns-clause-loops
returns-clause-loops c = of-negation (λ a f. LoopsOf a (Not f)) (λ f plain. loops (Not f) plain) _ _ c.in_ok-dual.ensures

pub returns-clause-names : goal.returns-clause-names
returns-clause-names c = of-negation (λ a f. NamesOf a) (λ f plain. names (Not f) plain) _ _ c.in_ok-dual.ensures

pub returns-clause-size : goal.returns-clause-size
returns-clause-size c = of-negation (λ a f. SizeOf a f) negation-size _ _ c.in_ok-dual.ensures

pub returns-clause-atoms : goal.returns-clause-atoms
returns-clause-atoms c = of-negation (λ a f. KeepsAtoms a f) (λ f plain. keeps-atoms (Not f)) _ _ c.in_ok-dual.ensures
