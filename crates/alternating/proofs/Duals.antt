-- The duals of the program's obligations owe the same numbers, and what the dual of a formula's automaton is.
use Rattle.std.proofs.Common.{◌≡◌, sym, ap, ◌∙◌, subst, ℕ, List, [], ◌∷◌, length, map, arith}
use Rattle.std.specs.List.{AllByRecursion}
use Rattle.std.proofs.lemmas.List.{length-map}
use Rattle.std.proofs.lemmas.List.Elements.{All-from_recursion, recursion_from_All}
use Rattle.psl_tree.specs.Clockless.{IsPlain}
use Rattle.psl_tree.specs.Trees.{Formula, Not}
use Rattle.alternating_theory.specs.Construction.{opposite_obligation}
use Rattle.alternating_theory.specs.Dual.{opposite_automaton}
use Rattle.alternating_theory.specs.Laws.{SizeOf}
use Rattle.alternating_theory.specs.Obligations.{Obligation, Automaton}
use Rattle.alternating_theory.specs.Positive.{OwesWithin}
use Rattle.alternating_theory.specs.Built.{built}
use Rattle.alternating_theory.proofs.Negations.{opposite_built}
use Rattle.alternating_theory.proofs.LawsHold.{size}
use Rattle.alternating_theory.proofs.MetLaws.{within-opposite}
use Rattle.alternating.specs.Negations.{OfItsFormula}
use Rattle.alternating.specs.Views.{positive_of, obligation_of, obligations_of_code, ObligationsWithin}
use Rattle.alternating.specs.declared.obligation.Obligation as code_obligation

Each : ℕ → ℕ → List Obligation → Type 0
Each low high [] = Unit {0}
Each low high (o ∷ os) = OwesWithin low high o.delta × Each low high os

plain-each : (low high : ℕ) (os : List code_obligation.Obligation) → AllByRecursion (λ (o : code_obligation.Obligation). OwesWithin low high (positive_of o.delta)) os → Each low high (obligations_of_code os)
unfolding Each
plain-each low high [] w = tt
plain-each low high (o ∷ os) w = (w.0, plain-each low high os w.1)

each-plain : (low high : ℕ) (os : List code_obligation.Obligation) → Each low high (obligations_of_code os) → AllByRecursion (λ (o : code_obligation.Obligation). OwesWithin low high (positive_of o.delta)) os
unfolding Each
each-plain low high [] w = tt
each-plain low high (o ∷ os) w = (w.0, each-plain low high os w.1)

each-opposite : (low high : ℕ) (os : List Obligation) → Each low high os → Each low high (map opposite_obligation os)
unfolding Each
each-opposite low high [] w = tt
each-opposite low high (o ∷ os) w = (within-opposite low high o.delta w.0, each-opposite low high os w.1)

pub duals-within : (low high : ℕ) (os new : List code_obligation.Obligation) → obligations_of_code new ≡ map opposite_obligation (obligations_of_code os)
    → ObligationsWithin low high os → ObligationsWithin low high new
duals-within low high os new e w =
    All-from_recursion (λ (o : code_obligation.Obligation). OwesWithin low high (positive_of o.delta)) new
    (each-plain low high new (subst (λ (l : List Obligation). Each low high l) (sym e)
    (each-opposite low high (obligations_of_code os) (plain-each low high os (recursion_from_All (λ (o : code_obligation.Obligation). OwesWithin low high (positive_of o.delta)) os w)))))

pub duals-many : (os new : List code_obligation.Obligation) → obligations_of_code new ≡ map opposite_obligation (obligations_of_code os) → length new ≡ length os
duals-many os new e =
    sym (length-map new obligation_of) ∙ ap (λ (l : List Obligation). length l) e ∙ length-map (obligations_of_code os) opposite_obligation ∙ length-map os obligation_of

-- what holds of the automaton of each negation holds of the dual of each formula's
pub of-negation : (P : Automaton → Formula → Type 0) → ((f : Formula) → IsPlain f → P (built (Not f)) f) → (dual automaton : Automaton) → dual ≡ opposite_automaton automaton
    → OfItsFormula automaton (λ f. P dual f)
of-negation P holds dual automaton e f plain is = subst (λ (a : Automaton). P a f) (sym (e ∙ ap opposite_automaton is ∙ opposite_built f plain)) (holds f plain)

-- the dual of the automaton of a formula is as long
pub negation-size : (f : Formula) → IsPlain f → SizeOf (built (Not f)) f
negation-size f plain = subst (λ (a : Automaton). SizeOf a f) (opposite_built f plain) (omega (arith, length-map (built f).obligations opposite_obligation, size f plain))
