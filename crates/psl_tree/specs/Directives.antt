-- What the directives of a text are over, and how large they are.
use Rattle.std.specs.Prelude.{◌≤◌, List, All}
use Rattle.psl_tree.specs.Atoms.{AtomsOfFormula}
use Rattle.psl_tree.specs.Counts.{formula_size}
use Rattle.psl_tree.specs.Names.{AtomInRange}
use Rattle.psl_tree.specs.Trees.{formula_of}
use Rattle.psl_tree.specs.declared.counts.TheConstants.{MOST_CONSTRUCTORS}
use Rattle.psl_tree.specs.declared.directive.Directive.{Directive}
use Rattle.psl_tree.specs.declared.name.Name.{Name}

-- each atom of a directive is in range of names; so is each atom of some
abbrev pub IsOver : List Name → Directive → Type 0
IsOver names directive = AtomsOfFormula (AtomInRange names) (formula_of directive.formula)

abbrev pub AreOver : List Name → List Directive → Type 0
AreOver names directives = All (λ directive. IsOver names directive) directives

-- a directive has no more constructors than a formula may have; so has each of some
abbrev pub IsSmall : Directive → Type 0
IsSmall directive = formula_size (formula_of directive.formula) ≤ MOST_CONSTRUCTORS

abbrev pub AreSmall : List Directive → Type 0
AreSmall directives = All (λ directive. IsSmall directive) directives
