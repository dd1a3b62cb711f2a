use Rattle.std.proofs.Common.{◌∙◌, ◌++◌, ◌∷◌, [], List, ℕ, ap, sym, arith}
use Rattle.prover_open.proofs.Lists.{range-more}
use Rattle.prover_open.proofs.listing.all_numbers.Goals as goal

pub loop-number-preserved : goal.loop-number-preserved
loop-number-preserved c =
    c.in_ok-push.ensures.ok ∙ ap (λ (list : List ℕ). list ++ c.loop-number.number ∷ []) c.loop-number.invariant ∙ sym (range-more 0 c.loop-number.number c.loop-number.number (omega arith))
