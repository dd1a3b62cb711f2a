-- What holds of the answers to a tree, as statements.
use Rattle.std.specs.Prelude.{◌≡◌, ◌≢◌, List, ◌++◌, map, Option}
use Rattle.psl_grammar.specs.declared.tree.UnitTree as code_tree
use Rattle.psl_tree.specs.declared.directive.Directive.{Directive}
use Rattle.psl_tree.specs.declared.name.Name.{Name}
use Rattle.psl_layer_theory.specs.Answers.{IsUnit, IsLayerFault, directive_of}
use Rattle.psl_layer_theory.specs.FirstFlaw.{IsFirstFlaw, earlier, first_of}
use Rattle.psl_layer_theory.specs.declared.fault.Flaw.{Flaw}
use Rattle.psl_layer_theory.specs.declared.fault.LayerFault.{LayerFault}
use Rattle.psl_layer_theory.specs.declared.fault.LayerFault.TheVariants.{NoMemory}

-- faults have one first fault at most
abbrev pub OneFirstFlaw : Type 0
OneFirstFlaw = (all : List Flaw) (first second : Option Flaw) → IsFirstFlaw all first → IsFirstFlaw all second → first ≡ second

-- the function gives the first of all faults
abbrev pub FunctionIsFirst : Type 0
FunctionIsFirst = (all : List Flaw) → IsFirstFlaw all (first_of all)

-- the first of two lists' faults is the earlier of the first ones of each
abbrev pub FirstOfBoth : Type 0
FirstOfBoth = (xs ys : List Flaw) → first_of (xs ++ ys) ≡ earlier (first_of xs) (first_of ys)

-- a tree has one fault at most, but for want of memory
abbrev pub OneFault : Type 0
OneFault =
    (tree : code_tree.UnitTree) (names : List Name) (first second : LayerFault) → first ≢ NoMemory → second ≢ NoMemory →
    IsLayerFault tree names first → IsLayerFault tree names second → first ≡ second

-- a tree is resolved to one list of directives at most, up to equal formulas
abbrev pub OneUnit : Type 0
OneUnit =
    (tree : code_tree.UnitTree) (names : List Name) (first second : List Directive) →
    IsUnit tree names first → IsUnit tree names second → map directive_of first ≡ map directive_of second

-- a tree with directives has no fault
abbrev pub NotBoth : Type 0
NotBoth =
    (tree : code_tree.UnitTree) (names : List Name) (unit : List Directive) (fault : LayerFault) →
    IsUnit tree names unit → fault ≢ NoMemory → IsLayerFault tree names fault → ⊥
