use Rattle.std.proofs.Common.{◌≡◌, ap, ◌∙◌, subst, sym, ℕ, ◌<◌, ◌≤◌, List, map}
use Rattle.psl_tree.specs.declared.counts.TheConstants.{MOST_OBLIGATIONS}
use Rattle.alternating_theory.specs.Construction.{opposite_obligation}
use Rattle.alternating.specs.Views.{obligations_of_code, ObligationsWithin}
use Rattle.alternating.specs.declared.obligation.Obligation as code_obligation
use Rattle.alternating.proofs.Duals.{duals-within, duals-many}
use Rattle.alternating.proofs.automaton.Alternating.opposite.Goals as goal

pub invariant_of-result : goal.invariant_of-result
invariant_of-result c =
    let old : List code_obligation.Obligation = c.self.inside.obligations.items in
    let new : List code_obligation.Obligation = c.in_ok-obligations.obligations.items in
    let made : obligations_of_code new ≡ map opposite_obligation (obligations_of_code old) =
    c.in_ok-obligations.ensures ∙ ap (λ (l : List code_obligation.Obligation). map opposite_obligation (obligations_of_code l)) c.as_slice.ensures.value in
    let many = duals-many old new made in
    record {
      start_below = subst (λ (n : ℕ). c.self.inside.start < n) (sym many) c.self.invariant.start_below;
      owed_below = subst (λ (n : ℕ). ObligationsWithin 0 n new) (sym many) (duals-within 0 _ old new made c.self.invariant.owed_below);
      few = subst (λ (n : ℕ). n ≤ MOST_OBLIGATIONS) (sym many) c.self.invariant.few;
    }
