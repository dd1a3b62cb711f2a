-- What the automaton of a directive says.
use Rattle.std.specs.Prelude.{Bool as Truth, IsTrue, ◌↔◌, List, None}
use Rattle.alternating_theory.specs.Atoms.{AtomsOfObligations}
use Rattle.alternating_theory.specs.Obligations.{Automaton, value_on}
use Rattle.psl_tree.specs.Followed.{Nothing, Tops, Bottoms}
use Rattle.psl_tree.specs.Satisfaction.{Sat}
use Rattle.psl_tree.specs.Trace.{trace_of}
use Rattle.psl_tree.specs.Views as views
use Rattle.psl_tree.specs.Atoms.{AtomsOfFormula}
use Rattle.psl_tree.specs.declared.atom.Atom.{Atom}
use Rattle.psl_tree.specs.declared.directive.Directive.{Directive}
use Rattle.psl_tree.specs.declared.letter.Letter.{Letter}
use Rattle.psl_tree.specs.Trees.{formula_of}

-- its values on letters say whether they satisfy the directive's formula in the three views, and a
-- test that all atoms of the formula pass is passed by all atoms of the automaton
pub record Means (automaton : Automaton) (directive : Directive) : Type 0 where
  pub weak : (letters : List Letter) → IsTrue (value_on automaton Tops letters) ↔ Sat (trace_of (views.weak letters)) (formula_of directive.formula) None
  pub neutral : (letters : List Letter) → IsTrue (value_on automaton Nothing letters) ↔ Sat (trace_of (views.neutral letters)) (formula_of directive.formula) None
  pub strong : (letters : List Letter) → IsTrue (value_on automaton Bottoms letters) ↔ Sat (trace_of (views.strong letters)) (formula_of directive.formula) None
  pub atoms : (test : Atom → Truth) → AtomsOfFormula (λ atom. IsTrue (test atom)) (formula_of directive.formula) → AtomsOfObligations (λ atom. IsTrue (test atom)) automaton.obligations
