use Rattle.std.proofs.Common.{sym, subst}
use Rattle.psl_tree.specs.Trees.{formula_of}
use Rattle.alternating_theory.specs.LoopLaws.{LoopsOf}
use Rattle.alternating_theory.proofs.LoopLawsHold.{loops}
use Rattle.alternating_theory.specs.Laws.{ValuesOf, NamesOf, SizeOf}
use Rattle.alternating_theory.specs.Obligations.{Automaton}
use Rattle.alternating_theory.proofs.LawsHold.{values, names, size}
use Rattle.alternating_theory.specs.Atoms.{KeepsAtoms}
use Rattle.alternating.proofs.Tested.{keeps-atoms}
use Rattle.alternating.proofs.automaton.of.Goals as goal

pub returns-in-Ok-clause-values : goal.returns-in-Ok-clause-values
returns-in-Ok-clause-values c = subst (λ (a : Automaton). ValuesOf a (formula_of c.args.f.now)) (sym c.in-Ok.ensures) (values (formula_of c.args.f.now) c.requires)

pub returns-in-Ok-clause-loops : goal.returns-in-Ok-clause-loops
returns-in-Ok-clause-loops c = subst (λ (a : Automaton). LoopsOf a (formula_of c.args.f.now)) (sym c.in-Ok.ensures) (loops (formula_of c.args.f.now) c.requires)

pub returns-in-Ok-clause-names : goal.returns-in-Ok-clause-names
returns-in-Ok-clause-names c = subst (λ (a : Automaton). NamesOf a) (sym c.in-Ok.ensures) (names (formula_of c.args.f.now) c.requires)

pub returns-in-Ok-clause-size : goal.returns-in-Ok-clause-size
returns-in-Ok-clause-size c = subst (λ (a : Automaton). SizeOf a (formula_of c.args.f.now)) (sym c.in-Ok.ensures) (size (formula_of c.args.f.now) c.requires)

pub returns-in-Ok-clause-atoms : goal.returns-in-Ok-clause-atoms
returns-in-Ok-clause-atoms c = subst (λ (a : Automaton). KeepsAtoms a (formula_of c.args.f.now)) (sym c.in-Ok.ensures) (keeps-atoms (formula_of c.args.f.now))
