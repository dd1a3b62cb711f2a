-- What a tree is resolved to over names: its directives, or its first fault.
use Rattle.std.specs.Prelude.{Bool as Truth, ◌≡◌, ℕ, suc, nat_lt, List, [], ◌∷◌, map, Option, None, Some, ⊤}
use Rattle.std.specs.List.{find}
use Rattle.std.specs.Option.{option_map}
use Rattle.psl_base.specs.declared.place.Place.{Place}
use Rattle.psl_grammar.specs.declared.tree.UnitTree as code_tree
use Rattle.psl_tree.specs.declared.counts.TheConstants.{MOST_CONSTRUCTORS}
use Rattle.psl_tree.specs.Counts.{formula_size}
use Rattle.psl_tree.specs.Trees.{Formula, formula_of}
use Rattle.psl_tree.specs.declared.directive.Directive.{Directive}
use Rattle.psl_tree.specs.declared.directive.Kind as directive_kind
use Rattle.psl_tree.specs.declared.name.Name.{Name}
use Rattle.psl_layer_theory.specs.Directives.{Asked, kernel}
use Rattle.psl_layer_theory.specs.FirstFlaw.{IsFirstFlaw}
use Rattle.psl_layer_theory.specs.Flaws.{tree_flaws}
use Rattle.psl_layer_theory.specs.declared.fault.Cause.{Cause}
use Rattle.psl_layer_theory.specs.declared.fault.Cause.TheVariants as causes
use Rattle.psl_layer_theory.specs.declared.fault.LayerFault.{LayerFault}
use Rattle.psl_layer_theory.specs.declared.fault.LayerFault.TheVariants as faults

-- a directive with its number, and the place of its word
pub record Numbered : Type 0 where
  pub number : ℕ
  pub kind : directive_kind.Kind
  pub label : Option (List ℕ)
  pub place : Place
  pub formula : Formula

-- the directives in order, numbered from a number on
abbrev pub numbered : ℕ → List Asked → List Numbered
numbered next [] = []
numbered next (asked ∷ more) =
    record { number = next; kind = asked.kind; label = asked.label; place = asked.place; formula = asked.formula } ∷ numbered (suc next) more

-- a directive of the program
abbrev pub directive_of : Directive → Numbered
directive_of directive =
    record { number = directive.number; kind = directive.kind; label = directive.label; place = directive.place; formula = formula_of directive.formula }

-- a formula has more constructors than the 4,096 that it may have
abbrev pub is_too_large : Asked → Truth
is_too_large asked = nat_lt MOST_CONSTRUCTORS (formula_size asked.formula)

-- the place of the first directive whose formula is too large, if there is one
abbrev pub first_too_large : List Asked → Option Place
first_too_large all = option_map (λ (asked : Asked). asked.place) (find is_too_large all)

-- a tree is resolved to these directives: it has no fault, and they are its kernel, numbered from 1
pub record IsUnit (tree : code_tree.UnitTree) (names : List Name) (unit : List Directive) : Type 0 where
  pub no_flaw : tree_flaws names tree ≡ []
  pub none_too_large : first_too_large (kernel names tree) ≡ None
  pub directives : map directive_of unit ≡ numbered 1 (kernel names tree)

-- a tree has its first fault of kinds and names at a place
abbrev pub IsFlawAt : code_tree.UnitTree → List Name → Cause → Place → Type 0
IsFlawAt tree names cause place = IsFirstFlaw (tree_flaws names tree) (Some (record { place = place; cause = cause }))

-- a tree has no fault of kinds and names, and its first directive that is too large stands at a place
pub record IsTooLargeAt (tree : code_tree.UnitTree) (names : List Name) (place : Place) : Type 0 where
  pub no_flaw : tree_flaws names tree ≡ []
  pub first : first_too_large (kernel names tree) ≡ Some place

-- a tree is refused with this fault; want of memory may come at any time
abbrev pub IsLayerFault : code_tree.UnitTree → List Name → LayerFault → Type 0
IsLayerFault tree names (faults.Kind place) = IsFlawAt tree names causes.Kind place
IsLayerFault tree names (faults.UnknownName place) = IsFlawAt tree names causes.UnknownName place
IsLayerFault tree names (faults.Ambiguous place) = IsFlawAt tree names causes.Ambiguous place
IsLayerFault tree names (faults.DeclaredTwice place) = IsFlawAt tree names causes.DeclaredTwice place
IsLayerFault tree names (faults.EmptyRange place) = IsFlawAt tree names causes.EmptyRange place
IsLayerFault tree names (faults.ConstantTooWide place) = IsFlawAt tree names causes.ConstantTooWide place
IsLayerFault tree names (faults.TooLarge place) = IsTooLargeAt tree names place
IsLayerFault tree names faults.NoMemory = ⊤
