use Rattle.std.proofs.Common.{◌≡◌, ◌∙◌, ◌+◌, ◌++◌, ◌∷◌, [], Bool, List, map, refl, sym, ap, arith}
use Rattle.std.specs.List.{range_with_len}
use Rattle.std.proofs.lemmas.List.{get_or_default}
use Rattle.std.proofs.lemmas.List.FromFn.{map-range_with_len_more}
use Rattle.run_terms.specs.Formulas.{values_of}
use Rattle.bounded.specs.Adding.{frame_in}
use Rattle.bounded.specs.Found.{filled, free_values}
use Rattle.bounded.proofs.runs.valuations.Goals as goal

pub loop-step-preserved : goal.loop-step-preserved
loop-step-preserved c =
    let d = c.args.netlist.now in
    let values = values_of c.args.values.now in
    let frames = c.args.frames.now in
    let first = c.args.first in
    let step = c.loop-step.step in
    let v = c.in_ok-valuation.field-0 in
    let here : c.as_slice-frame.result.now ≡ frame_in frames (first + step) =
    c.as_slice-frame.ensures ∙ c.index-frames-first.is ∙ get_or_default frames (first + step) c.index-frames-first.result [] (omega (arith, c.requires.room)) in
    c.in_ok-push.ensures.ok ∙ ap (λ (l : List (List Bool)). l ++ v ∷ []) c.loop-step.invariant
    ∙ ap (λ x. map (λ place. filled d (free_values d values (frame_in frames place))) (range_with_len first step) ++ x ∷ []) (c.in_ok-valuation.ensures ∙ ap (λ l. filled d (free_values d values l)) here)
    ∙ sym (map-range_with_len_more (λ place. filled d (free_values d values (frame_in frames place))) first step (first + step) refl)
