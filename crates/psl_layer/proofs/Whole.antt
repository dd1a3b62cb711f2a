-- Whole texts: from the directives that are asked to what a text is resolved to.
use Rattle.std.proofs.Common.{◌≡◌, ℕ, ◌+◌, ◌<◌, List, [], ◌∷◌, ◌++◌, length, get_or, take, Option, None, Some, Result, Ok, Err, sym, ap, subst, ◌∙◌, add-one}
use Rattle.std.proofs.Math.Seq.{take-suc}
use Rattle.std.specs.Prelude.{IfOk, IfErr}
use Rattle.psl_base.specs.declared.items.NoMemory.{NoMemory}
use Rattle.psl_base.specs.declared.place.Place.{Place}
use Rattle.psl_grammar.specs.declared.tree.Statement as code_statement
use Rattle.psl_grammar.specs.declared.tree.UnitTree as code_tree
use Rattle.psl_grammar.specs.declared.tree.UnitTree.TheVariants as trees
use Rattle.psl_grammar.specs.declared.tree.VerificationUnit.{VerificationUnit}
use Rattle.psl_tree.specs.Trees.{Boolean}
use Rattle.psl_tree.specs.declared.directive.Directive.{Directive}
use Rattle.psl_tree.specs.declared.name.Name.{Name}
use Rattle.psl_layer_theory.specs.Answers.{IsUnit, IsLayerFault}
use Rattle.psl_layer_theory.specs.Directives.{Asked, asked_after, asked_in, asked_in_units, default_clock, kernel}
use Rattle.psl_layer_theory.specs.FirstFlaw.{IsFirstFlaw, earlier, fault_as, fault_of, first_of}
use Rattle.psl_layer_theory.specs.Flaws.{statements_flaws, tree_flaws, units_flaws}
use Rattle.psl_layer_theory.specs.declared.fault.Cause.{Cause}
use Rattle.psl_layer_theory.specs.declared.fault.Cause.TheVariants as causes
use Rattle.psl_layer_theory.specs.declared.fault.Flaw.{Flaw}
use Rattle.psl_layer_theory.specs.declared.fault.LayerFault.{LayerFault}
use Rattle.psl_layer_theory.specs.declared.fault.LayerFault.TheVariants as faults
use Rattle.psl_layer_theory.proofs.Firsts.{first_of-append, first_of_is_first}
use Rattle.psl_layer.specs.Asked.{AskAll, IsLonger, IsRead}
use Rattle.psl_layer.specs.Built.{GivesClock}
use Rattle.psl_layer.specs.Outcomes.{IsOutcome}
use Rattle.psl_layer.specs.declared.statements.Reading.{Reading}
use Rattle.psl_layer.specs.declared.texts.Outcome.{Outcome}
use Rattle.psl_layer.proofs.Scopes.{units-asked-more, units-flaws-more}

-- what was found with a list of statements behind
pub list_found : (names : List Name) (all : List code_statement.Statement) (old new : Outcome) (reading : Reading) (found : List Flaw) (asked : List Asked) →
    IsRead names reading → reading.scope.before.now ≡ all → new.flaw ≡ earlier old.flaw reading.flaw →
    ((wanted : Option Boolean) (done every : List Asked) → GivesClock reading.scope.clock wanted → AskAll wanted reading.asked.items every →
    IsLonger [] done old.built → IsLonger [] (done ++ every) new.built) →
    IsOutcome found asked old → IsOutcome (found ++ statements_flaws [] names all) (asked ++ asked_in names all) new
list_found names all old new reading found asked read is flaw longer begun =
    let clock : Option Boolean = default_clock [] names all in
    record {
      flaw =
          flaw
          ∙ ap (λ (first : Option Flaw). earlier first reading.flaw) begun.flaw
          ∙ ap (earlier (first_of found)) (read.flaw ∙ ap (λ (statements : List code_statement.Statement). first_of (statements_flaws [] names statements)) is)
          ∙ sym (first_of-append found (statements_flaws [] names all));
      built =
          longer clock asked (asked_in names all)
          (subst (λ (statements : List code_statement.Statement). GivesClock reading.scope.clock (default_clock [] names statements)) is read.scope.clock)
          (subst (λ (statements : List code_statement.Statement). AskAll clock reading.asked.items (asked_after [] names clock statements)) is (read.asked clock))
          begun.built;
    }

-- with a unit more
pub unit_found : (names : List Name) (units : List VerificationUnit) (index : ℕ) (unit : VerificationUnit) (statements : List code_statement.Statement) (new : Outcome) →
    unit ≡ get_or units index unit → index < length units → statements ≡ unit.statements →
    IsOutcome (units_flaws names (take index units) ++ statements_flaws [] names statements) (asked_in_units names (take index units) ++ asked_in names statements) new →
    IsOutcome (units_flaws names (take (index + 1) units)) (asked_in_units names (take (index + 1) units)) new
unit_found names units index unit statements new at below is found =
    let grown : take (index + 1) units ≡ take index units ++ unit ∷ [] =
    ap (λ (next : ℕ). take next units) (add-one index)
    ∙ take-suc units index unit below
    ∙ ap (λ (one : VerificationUnit). take index units ++ one ∷ []) (sym at) in
    record {
      flaw =
          found.flaw
          ∙ ap (λ (own : List code_statement.Statement). first_of (units_flaws names (take index units) ++ statements_flaws [] names own)) is
          ∙ ap first_of (sym (units-flaws-more names (take index units) unit))
          ∙ ap (λ (all : List VerificationUnit). first_of (units_flaws names all)) (sym grown);
      built =
          subst (λ (all : List VerificationUnit). IsLonger [] (asked_in_units names all) new.built) (sym grown)
          (subst (λ (asked : List Asked). IsLonger [] asked new.built) (sym (units-asked-more names (take index units) unit))
          (subst (λ (own : List code_statement.Statement). IsLonger [] (asked_in_units names (take index units) ++ asked_in names own) new.built) is found.built));
    }

-- what was found of a text that is a list of statements
pub statements_found : (tree : code_tree.UnitTree) (names : List Name) (all : List code_statement.Statement) (old : Outcome) (result : Result Outcome NoMemory) →
    tree ≡ trees.Statements all → IsOutcome [] [] old →
    IfOk result (λ new. (found : List Flaw) (asked : List Asked) → IsOutcome found asked old → IsOutcome (found ++ statements_flaws [] names all) (asked ++ asked_in names all) new) →
    IfOk result (IsOutcome (tree_flaws names tree) (kernel names tree))
statements_found tree names all old (Ok new) is begun found =
    subst (λ (text : code_tree.UnitTree). IsOutcome (tree_flaws names text) (kernel names text) new) (sym is) (found [] [] begun)
statements_found tree names all old (Err refused) is begun found = tt

-- the first fault, as it was found
is_first : (tree : code_tree.UnitTree) (names : List Name) (outcome : Outcome) (flaw : Option Flaw) → IsOutcome (tree_flaws names tree) (kernel names tree) outcome → outcome.flaw ≡ flaw →
    IsFirstFlaw (tree_flaws names tree) flaw
is_first tree names outcome flaw found is = subst (IsFirstFlaw (tree_flaws names tree)) (sym found.flaw ∙ is) (first_of_is_first (tree_flaws names tree))

cause_is : (tree : code_tree.UnitTree) (names : List Name) (cause : Cause) (place : Place) →
    IsFirstFlaw (tree_flaws names tree) (Some (record { place = place; cause = cause })) → IsLayerFault tree names (fault_as cause place)
cause_is tree names causes.Kind place is = is
cause_is tree names causes.UnknownName place is = is
cause_is tree names causes.Ambiguous place is = is
cause_is tree names causes.DeclaredTwice place is = is
cause_is tree names causes.EmptyRange place is = is
cause_is tree names causes.ConstantTooWide place is = is

-- the first fault of kinds and names is that of the text
pub flaw_is : (tree : code_tree.UnitTree) (names : List Name) (outcome : Outcome) (flaw : Flaw) → IsOutcome (tree_flaws names tree) (kernel names tree) outcome → outcome.flaw ≡ Some flaw →
    IsLayerFault tree names (fault_of flaw)
flaw_is tree names outcome flaw found is = cause_is tree names flaw.cause flaw.place (is_first tree names outcome (Some flaw) found is)

-- without one the directives are those of the text
pub unit_is : (tree : code_tree.UnitTree) (names : List Name) (result : Result (List Directive) LayerFault) → tree_flaws names tree ≡ [] → IsLonger [] (kernel names tree) result →
    IfOk result (IsUnit tree names)
unit_is tree names (Ok unit) no_flaw longer = record { no_flaw = no_flaw; none_too_large = longer.0; directives = longer.1 }
unit_is tree names (Err fault) no_flaw longer = tt

-- or the first that is too large is
pub fault_is : (tree : code_tree.UnitTree) (names : List Name) (result : Result (List Directive) LayerFault) → tree_flaws names tree ≡ [] → IsLonger [] (kernel names tree) result →
    IfErr result (IsLayerFault tree names)
fault_is tree names (Ok unit) no_flaw is = tt
fault_is tree names (Err (faults.TooLarge place)) no_flaw is = record { no_flaw = no_flaw; first = is }
fault_is tree names (Err faults.NoMemory) no_flaw is = tt
fault_is tree names (Err (faults.Kind place)) no_flaw is = absurd is
fault_is tree names (Err (faults.UnknownName place)) no_flaw is = absurd is
fault_is tree names (Err (faults.Ambiguous place)) no_flaw is = absurd is
fault_is tree names (Err (faults.DeclaredTwice place)) no_flaw is = absurd is
fault_is tree names (Err (faults.EmptyRange place)) no_flaw is = absurd is
fault_is tree names (Err (faults.ConstantTooWide place)) no_flaw is = absurd is

-- no fault was found
pub no_flaw : (tree : code_tree.UnitTree) (names : List Name) (outcome : Outcome) → IsOutcome (tree_flaws names tree) (kernel names tree) outcome → outcome.flaw ≡ None → tree_flaws names tree ≡ []
no_flaw tree names outcome found is = is_first tree names outcome None found is
