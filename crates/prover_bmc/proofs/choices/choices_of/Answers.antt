use Rattle.std.proofs.Common.{◌≡◌, ◌∙◌, ℤ, List, length, ap, arith, subst, sym}
use Rattle.std.specs.List.{All}
use Rattle.prover_bmc.proofs.choices.choices_of.Goals as goal

pub returns : goal.returns
returns c = λ design chosen.
    let same = c.as_slice-2.ensures in
    record {
      some = omega (arith, chosen.some, c.in_ok-all_values_of.ensures.size, ap length same);
      latches = c.in_ok-values_of.ensures ∙ ap length c.as_slice.ensures ∙ chosen.latches;
      inputs = c.in_ok-all_values_of.ensures.each (length design.inputs)
          (subst (λ (frames : List (List ℤ)). All (λ (literals : List ℤ). length literals ≡ length design.inputs) frames) (sym same) chosen.inputs);
    }
