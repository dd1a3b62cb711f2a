use Rattle.std.proofs.Common.{◌∙◌, ◌++◌, [], ◌∷◌, Bool as Truth, List, sym, ap, map, arith}
use Rattle.std.specs.List.{range_with_len}
use Rattle.std.proofs.lemmas.List.FromFn.{map-range_with_len_more}
use Rattle.joint.specs.Asked.{asked_row}
use Rattle.joint.proofs.askers.rows_of.Goals as goal

pub loop-number-preserved : goal.loop-number-preserved
loop-number-preserved c =
    let number = c.loop-number.number in
    let row = asked_row c.args.violation.now in
    c.in_ok-push.ensures.ok
    ∙ ap (λ (rows : List (List Truth)). rows ++ c.in_ok-row_of.field-0 ∷ []) c.loop-number.invariant
    ∙ ap (λ (new : List Truth). map row (range_with_len 0 number) ++ new ∷ []) c.in_ok-row_of.ensures
    ∙ sym (map-range_with_len_more row 0 number number (omega arith))
