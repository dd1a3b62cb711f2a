use Rattle.std.proofs.Common.{◌<◌, length, arith}
use Rattle.std.proofs.lemmas.Option.{get_or_from_slice_get}
use Rattle.prover_held.proofs.Paths.{earlier-valid, path-first, path-inputs, path-next}
use Rattle.prover_held.proofs.walking.follow.Goals as goal

pub next_valuation-requires-clause-earlier : goal.next_valuation-requires-clause-earlier
next_valuation-requires-clause-earlier c =
    earlier-valid c.args.netlist.now c.loop-place.path c.loop-place.place c.at.result.now c.loop-place.invariant.path c.loop-place.invariant.size c.at.ensures

pub next_valuation-requires-clause-inputs : goal.next_valuation-requires-clause-inputs
next_valuation-requires-clause-inputs c =
    let within : c.loop-place.place < length c.args.inputs.now = omega (arith, c.loop-place-test.true, c.len-place-end.ensures) in
    rw (get_or_from_slice_get c.args.inputs.now c.loop-place.place c.at-in-loop-place.result.now c.at-in-loop-place.result.now c.at-in-loop-place.ensures) at
    (c.requires.inputs c.loop-place.place c.at-in-loop-place.result.now within)

pub loop-place-preserved : goal.loop-place-preserved
loop-place-preserved c =
    let d = c.args.netlist.now in
    let kept = c.loop-place.invariant in
    let longer = c.push-in-loop-place.new.self in
    let more = path-next d c.loop-place.path c.loop-place.place c.at.result.now kept.path kept.size
    c.at.ensures c.in_ok-next.next c.in_ok-next.ensures.step longer c.in_ok-push-2.ensures.ok in
    record {
      path = more.0;
      size = more.1;
      inputs = path-inputs d c.loop-place.path c.loop-place.place c.at.result.now kept.path kept.size c.at.ensures
          c.args.inputs.now c.in_ok-next.next c.at-in-loop-place.result.now longer c.in_ok-push-2.ensures.ok kept.inputs c.in_ok-next.ensures.inputs
          c.at-in-loop-place.ensures;
      first = path-first d c.loop-place.path c.loop-place.place c.at.result.now kept.path kept.size c.at.ensures
          c.args.first c.in_ok-next.next longer c.in_ok-push-2.ensures.ok kept.first;
    }
