-- The directives of a text: their atoms are in range of the names, and their formulas are small.
use Rattle.std.proofs.Common.{◌≡◌, ℕ, suc, ◌≤◌, List, [], ◌∷◌, map, Bool, true, false, if◌then◌else◌, None, Some, Result, Ok, Err, refl, sym, subst}
use Rattle.std.specs.Prelude.{All, IfOk}
use Rattle.std.specs.List.{find}
use Rattle.std.specs.Option.{option_map}
use Rattle.std.proofs.lemmas.Bool.{ltb-false}
use Rattle.std.proofs.lemmas.List.Elements.{All-cons, All-head, All-nil, All-tail}
use Rattle.psl_grammar.specs.declared.tree.UnitTree as code_tree
use Rattle.psl_tree.specs.Atoms.{AtomsOfFormula}
use Rattle.psl_tree.specs.declared.counts.TheConstants.{MOST_CONSTRUCTORS}
use Rattle.psl_tree.specs.Counts.{formula_size}
use Rattle.psl_tree.specs.Names.{AreAlike, AtomInRange}
use Rattle.psl_tree.specs.Trees.{Formula, formula_of}
use Rattle.psl_tree.specs.declared.directive.Directive.{Directive}
use Rattle.psl_tree.specs.declared.name.Name.{Name}
use Rattle.psl_layer_laws.proofs.RangedStatements.{atoms-in-range}
use Rattle.psl_layer_theory.specs.Answers.{Numbered, directive_of, numbered, is_too_large, first_too_large}
use Rattle.psl_layer_theory.specs.Directives.{Asked, kernel}
use Rattle.psl_layer_theory.specs.declared.fault.LayerFault.{LayerFault}
use Rattle.psl_layer.specs.Asked.{IsLonger}

module _ (P : Formula → Type 0) where
  numbered-have : (next : ℕ) (asked : List Asked) → All (λ one. P one.formula) asked → All (λ one. P one.formula) (numbered next asked)
  numbered-have next [] each = All-nil (λ (one : Numbered). P one.formula)
  numbered-have next (one ∷ more) each =
      let head : Numbered = record { number = next; kind = one.kind; label = one.label; place = one.place; formula = one.formula } in
      All-cons (λ (each : Numbered). P each.formula) head (numbered (suc next) more) (All-head (λ (each : Asked). P each.formula) one more each)
      (numbered-have (suc next) more (All-tail (λ (each : Asked). P each.formula) one more each))

  directives-have : (unit : List Directive) → All (λ one. P one.formula) (map directive_of unit) → All (λ directive. P (formula_of directive.formula)) unit
  directives-have [] each = All-nil (λ (directive : Directive). P (formula_of directive.formula))
  directives-have (one ∷ more) each =
      All-cons (λ (directive : Directive). P (formula_of directive.formula)) one more (All-head (λ (each : Numbered). P each.formula) (directive_of one) (map directive_of more) each)
      (directives-have more (All-tail (λ (each : Numbered). P each.formula) (directive_of one) (map directive_of more) each))

  -- what each formula that is asked has, each directive's has
  carried : (asked : List Asked) (unit : List Directive) → map directive_of unit ≡ numbered 1 asked → All (λ one. P one.formula) asked
      → All (λ directive. P (formula_of directive.formula)) unit
  carried asked unit same each =
      directives-have unit (subst (All (λ (one : Numbered). P one.formula)) (sym same) (numbered-have 1 asked each))

by-test : (test : Bool) (one : Asked) (more : List Asked) → is_too_large one ≡ test → (first_too_large more ≡ None → All (λ each. formula_size each.formula ≤ MOST_CONSTRUCTORS) more)
    → option_map (λ (asked : Asked). asked.place) (if test then Some one else find is_too_large more) ≡ None → All (λ each. formula_size each.formula ≤ MOST_CONSTRUCTORS) (one ∷ more)
by-test true one more large rest none = absurd cc
by-test false one more fits rest none =
    All-cons (λ (each : Asked). formula_size each.formula ≤ MOST_CONSTRUCTORS) one more (ltb-false MOST_CONSTRUCTORS (formula_size one.formula) fits) (rest none)

each-small : (asked : List Asked) → first_too_large asked ≡ None → All (λ one. formula_size one.formula ≤ MOST_CONSTRUCTORS) asked
each-small [] none = All-nil (λ (one : Asked). formula_size one.formula ≤ MOST_CONSTRUCTORS)
each-small (one ∷ more) none = by-test (is_too_large one) one more refl (each-small more) none

-- the atoms of the directives are in range
pub ranged : (tree : code_tree.UnitTree) (names : List Name) (result : Result (List Directive) LayerFault) → IsLonger [] (kernel names tree) result → AreAlike names
    → IfOk result (λ unit. All (λ directive. AtomsOfFormula (AtomInRange names) (formula_of directive.formula)) unit)
ranged tree names (Ok unit) longer alike = carried (AtomsOfFormula (AtomInRange names)) (kernel names tree) unit longer.1 (atoms-in-range names tree alike)
ranged tree names (Err fault) longer alike = tt

-- their formulas are small
pub small : (tree : code_tree.UnitTree) (names : List Name) (result : Result (List Directive) LayerFault) → IsLonger [] (kernel names tree) result
    → IfOk result (λ unit. All (λ directive. formula_size (formula_of directive.formula) ≤ MOST_CONSTRUCTORS) unit)
small tree names (Ok unit) longer = carried (λ (formula : Formula). formula_size formula ≤ MOST_CONSTRUCTORS) (kernel names tree) unit longer.1 (each-small (kernel names tree) longer.0)
small tree names (Err fault) longer = tt
