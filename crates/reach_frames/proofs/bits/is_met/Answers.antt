use Rattle.std.proofs.Common.{◌<◌, [], length, sym, ap, ◌∙◌, arith}
use Rattle.std.proofs.lemmas.Bool.{and_from}
use Rattle.std.proofs.lemmas.List.Folds.{list_all_at, list_all_more}
use Rattle.std.proofs.lemmas.Option.{get_or_from_slice_get}
use Rattle.clauses.specs.Models.{meets}
use Rattle.reach_frames.specs.Bits.{values_of}
use Rattle.reach_frames.proofs.bits.is_met.Goals as goal

pub returns-then-not-meets : goal.returns-then-not-meets
returns-then-not-meets c =
    let met = meets (values_of c.args.state.now) in
    let clauses = c.args.clauses.now in
    let at = get_or_from_slice_get clauses c.loop-place.place c.at.result.now [] c.at.ensures.is in
    let within : c.loop-place.place < length clauses = omega arith in
    sym (list_all_at met clauses c.loop-place.place [] within (ap met at ∙ sym c.meets.ensures ∙ c.if-not-meets.true))

pub loop-place-preserved : goal.loop-place-preserved
loop-place-preserved c =
    let met = meets (values_of c.args.state.now) in
    let clauses = c.args.clauses.now in
    let at = get_or_from_slice_get clauses c.loop-place.place c.at.result.now [] c.at.ensures.is in
    let within : c.loop-place.place < length clauses = omega arith in
    list_all_more met clauses c.loop-place.place [] within
    ∙ and_from _ _ c.loop-place.invariant (ap met at ∙ sym c.meets.ensures ∙ c.if-not-meets.false)
