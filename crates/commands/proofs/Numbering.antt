-- The directives of a text are numbered from 1.
use Rattle.std.proofs.Common.{◌≡◌, ap, ℕ, zero, suc, ◌+◌, List, [], ◌∷◌, map, Some, arith}
use Rattle.std.specs.Prelude.{slice_get}
use Rattle.findings.specs.Asked.{AreNumbered}
use Rattle.psl_layer_theory.specs.Answers.{IsUnit, Numbered, directive_of, numbered}
use Rattle.psl_layer_theory.specs.Directives.{Asked, kernel}
use Rattle.psl_grammar.specs.declared.tree.UnitTree.{UnitTree}
use Rattle.psl_tree.specs.declared.directive.Directive.{Directive}
use Rattle.psl_tree.specs.declared.name.Name.{Name}

number-at : (from : ℕ) (unit : List Directive) (asked : List Asked) → map directive_of unit ≡ numbered from asked
    → (place : ℕ) (d : Directive) → slice_get unit place ≡ Some d → d.number ≡ from + place
number-at from [] asked is place d at = absurd cc
number-at from (first ∷ unit) [] is place d at = absurd cc
number-at from (first ∷ unit) (one ∷ asked) is zero d at =
    let same : first ≡ d = cc in
    let head : directive_of first ≡ record { number = from; kind = one.kind; label = one.label; place = one.place; formula = one.formula } = cc in
    omega (arith, ap (λ (e : Directive). e.number) same, ap (λ (n : Numbered). n.number) head)
number-at from (first ∷ unit) (one ∷ asked) is (suc place) d at =
    let rest : map directive_of unit ≡ numbered (suc from) asked = cc in
    omega (arith, number-at (suc from) unit asked rest place d at)

pub are-numbered : (tree : UnitTree) (names : List Name) (unit : List Directive) → IsUnit tree names unit → AreNumbered unit
are-numbered tree names unit is place d at = omega (arith, number-at 1 unit (kernel names tree) is.directives place d at)
