-- What is asked by statements that were read, and the directives that are made of it.
use Rattle.std.specs.Prelude.{◌≡◌, suc, List, [], ◌∷◌, ◌++◌, map, length, Option, None, Some, Result, Ok, Err}
use Rattle.psl_tree.specs.Trees.{Boolean, Formula}
use Rattle.psl_tree.specs.declared.directive.Directive.{Directive}
use Rattle.psl_tree.specs.declared.name.Name.{Name}
use Rattle.psl_sugar.specs.Budget.{GivesFormula}
use Rattle.psl_sugar.specs.declared.fault.SugarFault.{SugarFault}
use Rattle.psl_layer_theory.specs.Answers.{directive_of, numbered, first_too_large}
use Rattle.psl_layer_theory.specs.Directives as spec
use Rattle.psl_layer_theory.specs.FirstFlaw.{first_of}
use Rattle.psl_layer_theory.specs.Flaws.{statements_flaws}
use Rattle.psl_layer_theory.specs.Kernel.{Meaning}
use Rattle.psl_layer_theory.specs.declared.fault.LayerFault.{LayerFault}
use Rattle.psl_layer_theory.specs.declared.fault.LayerFault.TheVariants as faults
use Rattle.psl_layer.specs.Built.{Gives, GivesClock}
use Rattle.psl_layer.specs.Scopes.{Stands}
use Rattle.psl_layer.specs.declared.asked.Asked.{Asked}
use Rattle.psl_layer.specs.declared.directives.Form as code_form
use Rattle.psl_layer.specs.declared.directives.Form.TheVariants as forms
use Rattle.psl_layer.specs.declared.meaning.Meaning as code_meaning
use Rattle.psl_layer.specs.declared.statements.Reading.{Reading}

-- anything under a default clock
abbrev pub UnderRow : (Option Boolean → Meaning → Formula) → Option (Result Boolean SugarFault) → code_meaning.Meaning → Result Formula SugarFault → Type 0
UnderRow row clock part result =
    (first : Option Boolean) (second : Meaning) → GivesClock clock first → Gives part second → GivesFormula result (row first second)

-- a row of what was built
abbrev pub IsRowOf : (Meaning → Formula) → code_meaning.Meaning → Formula → Type 0
IsRowOf row part formula = (meaning : Meaning) × Gives part meaning × (row meaning ≡ formula)

-- what is asked is this formula, under a default clock
abbrev pub GivesForm : Option Boolean → code_form.Form → Formula → Type 0
GivesForm clock (forms.Settled result) formula = GivesFormula result formula
GivesForm clock (forms.Asserted part) formula = IsRowOf (spec.under_clock clock) part formula
GivesForm clock (forms.Covered part) formula = IsRowOf (spec.covered_under clock) part formula

-- a directive that was read asks this, under a default clock
pub record Asks (clock : Option Boolean) (read : Asked) (asked : spec.Asked) : Type 0 where
  pub kind : read.kind ≡ asked.kind
  pub label : read.label ≡ asked.label
  pub place : read.place ≡ asked.place
  pub form : GivesForm clock read.form asked.formula

-- the same of each of some
abbrev pub AskAll : Option Boolean → List Asked → List spec.Asked → Type 0
AskAll clock [] [] = Unit {0}
AskAll clock [] (asked ∷ others) = ⊥
AskAll clock (read ∷ more) [] = ⊥
AskAll clock (read ∷ more) (asked ∷ others) = Asks clock read asked × AskAll clock more others

-- what was read of statements: what they declare, what they ask under whatever default clock, and their first fault
pub record IsRead (names : List Name) (reading : Reading) : Type 0 where
  pub scope : Stands reading.scope names
  pub asked : (clock : Option Boolean) → AskAll clock reading.asked.items (spec.asked_after [] names clock reading.scope.before.now)
  pub flaw : reading.flaw ≡ first_of (statements_flaws [] names reading.scope.before.now)

-- the directives of a text so far, with those that are asked behind them: all of them, or the place of the first that is too large
abbrev pub IsLonger : List Directive → List spec.Asked → Result (List Directive) LayerFault → Type 0
IsLonger old asked (Ok new) = (first_too_large asked ≡ None) × (map directive_of new ≡ map directive_of old ++ numbered (suc (length old)) asked)
IsLonger old asked (Err (faults.TooLarge place)) = first_too_large asked ≡ Some place
IsLonger old asked (Err faults.NoMemory) = Unit {0}
IsLonger old asked (Err (faults.Kind place)) = ⊥
IsLonger old asked (Err (faults.UnknownName place)) = ⊥
IsLonger old asked (Err (faults.Ambiguous place)) = ⊥
IsLonger old asked (Err (faults.DeclaredTwice place)) = ⊥
IsLonger old asked (Err (faults.EmptyRange place)) = ⊥
IsLonger old asked (Err (faults.ConstantTooWide place)) = ⊥
