-- What holds of each formula that is owed.
use Rattle.std.specs.Prelude.{◌≡◌, ◌↔◌, ℕ, List, All, None}
use Rattle.psl_tree.specs.Satisfaction.{Sat}
use Rattle.psl_tree.specs.Trace.{Trace, dual}
use Rattle.psl_tree.specs.Atoms.{AtomsOfFormula}
use Rattle.psl_tree.specs.Names.{AtomInRange}
use Rattle.psl_tree.specs.Trees.{Formula, formula_of}
use Rattle.psl_tree.specs.declared.directive.Directive.{Directive}
use Rattle.psl_tree.specs.declared.directive.Kind.{Kind}
use Rattle.psl_tree.specs.declared.directive.Kind.TheVariants.{Assert, Assume, Cover}
use Rattle.psl_tree.specs.declared.name.Name.{Name}
use Rattle.owed.specs.Owed.{assumptions, owed}

-- the atoms of the formula are in range of names that those of the text and of the directive are in range of
abbrev pub IsInRangeOf : List Directive → Directive → Formula → Type 0
IsInRangeOf unit directive formula =
    (names : List Name) → All (λ directive. AtomsOfFormula (AtomInRange names) (formula_of directive.formula)) unit
    → AtomsOfFormula (AtomInRange names) (formula_of directive.formula) → AtomsOfFormula (AtomInRange names) formula

-- the claim of a directive with a formula: that the formula is satisfied, and of a cover that it is not
abbrev pub Claims : Trace → Kind → Formula → Type 0
Claims trace Assert formula = Sat trace formula None
Claims trace Assume formula = Sat trace formula None
Claims trace Cover formula = Sat trace formula None → ⊥

-- Where no letter is Top or Bottom, what is owed says that the directive's claim holds if all assumptions are satisfied.
abbrev pub Owes : List Directive → Directive → Type 0
Owes unit directive =
    (trace : Trace) → ((place : ℕ) → dual trace place ≡ trace place)
    → Sat trace (owed unit directive) None
    ↔ (All (λ formula. Sat trace formula None) (assumptions unit) → Claims trace directive.kind (formula_of directive.formula))
