-- The words that violate what is owed.
use Rattle.std.specs.Prelude.{◌↔◌, ◌<◌, List, length, All, None}
use Rattle.alternating_theory.specs.Atoms.{AtomsOfObligations}
use Rattle.alternating_theory.specs.Acceptance.{Accepts}
use Rattle.alternating_theory.specs.Built.{built}
use Rattle.alternating_theory.specs.Dual.{opposite_automaton}
use Rattle.alternating_theory.specs.Obligations.{Automaton}
use Rattle.netlist.specs.Design.{Design}
use Rattle.netlist.specs.Runs.{word}
use Rattle.netlist.specs.declared.run.Run.{Run}
use Rattle.psl_tree.specs.Satisfaction.{Sat}
use Rattle.psl_tree.specs.Trace.{trace_of}
use Rattle.psl_tree.specs.Atoms.{AtomsOfFormula}
use Rattle.psl_tree.specs.Names.{AtomInRange}
use Rattle.psl_tree.specs.Trees.{Not, formula_of}
use Rattle.psl_tree.specs.declared.directive.Directive.{Directive}
use Rattle.psl_tree.specs.declared.letter.Word.{Word}
use Rattle.psl_tree.specs.declared.name.Name.{Name}
use Rattle.owed.specs.Owed.{owed, plain_owed}

-- the automaton of the violations: the dual of that of what is owed
abbrev pub violation_of : List Directive → Directive → Automaton
violation_of unit directive = opposite_automaton (built (plain_owed unit directive))

-- it accepts just the words with a loop that satisfy the negation of what is owed
abbrev pub AcceptsViolations : Automaton → List Directive → Directive → Type 0
AcceptsViolations automaton unit directive =
    (word : Word) → 0 < length word.looped → Accepts automaton word ↔ Sat (trace_of word) (Not (owed unit directive)) None

-- of the words of runs it accepts just those that do not satisfy what is owed; whichever it does not accept satisfies it
pub record TellsRun (design : Design) (unit : List Directive) (directive : Directive) (run : Run) : Type 0 where
  pub accepts : Accepts (violation_of unit directive) (word design run)
      ↔ (Sat (trace_of (word design run)) (owed unit directive) None → ⊥)
  pub satisfied : (Accepts (violation_of unit directive) (word design run) → ⊥)
      → Sat (trace_of (word design run)) (owed unit directive) None

abbrev pub AcceptsViolatingRuns : Design → List Directive → Directive → Type 0
AcceptsViolatingRuns design unit directive = (run : Run) → 0 < length run.loop_part → TellsRun design unit directive run

-- its tests are of names that those of the text and of the directive are in range of
abbrev pub TestsNamesOf : List Directive → Directive → Automaton → Type 0
TestsNamesOf unit directive automaton =
    (names : List Name) → All (λ directive. AtomsOfFormula (AtomInRange names) (formula_of directive.formula)) unit
    → AtomsOfFormula (AtomInRange names) (formula_of directive.formula)
    → AtomsOfObligations (AtomInRange names) automaton.obligations
