use Rattle.std.proofs.Common.{◌≡◌, ◌∙◌, sym, [], length}
use Rattle.std.proofs.lemmas.Option.{get_or_from_slice_get}
use Rattle.prover_held.proofs.Filling.{filled-inputs}
use Rattle.prover_open.proofs.building.walk_freely.Goals as goal

pub follow-requires-clause-valuation : goal.follow-requires-clause-valuation
follow-requires-clause-valuation c = c.in_ok-first.ensures.is

pub follow-requires-clause-begins : goal.follow-requires-clause-begins
follow-requires-clause-begins c =
    let inputs = c.args.choices.now.inputs in
    let front = c.at.result.now in
    let fits : length front ≡ length c.args.netlist.now.inputs =
    rw (get_or_from_slice_get inputs 0 front front c.at.ensures) at (c.requires.inputs 0 front c.requires.some) in
    filled-inputs c.args.netlist.now front c.as_slice.result.now c.in_ok-first.first c.in_ok-first.ensures fits
    ∙ sym (get_or_from_slice_get inputs 0 front [] c.at.ensures)
