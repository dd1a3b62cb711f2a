use Rattle.std.proofs.Common.{refl, ℕ, ◌<◌, ◌/◌, length, arith}
use Rattle.lasso_judge.specs.Arrows.{places_from}
use Rattle.lasso_judge.proofs.Drawn.{gathered, places-shown, cell-place, cell-state}
use Rattle.lasso_judge.proofs.before.cells_before.Goals as goal

pub add_back-requires-clause-places : goal.add_back-requires-clause-places
add_back-requires-clause-places c =
    let drawn = c.requires.chart.drawn in
    let place : ℕ = c.args.cell / c.len-states.result in
    let inside : c.args.cell / c.len-states.result < length c.args.charted.chart.now.before.items =
    cell-place c.args.cell c.args.charted.chart.now.cells (length c.args.charted.chart.now.before.items) (length c.args.charted.chart.now.nfa.states) c.len-states.result drawn.cells c.requires.within c.len-states.ensures drawn.some in
    places-shown c.as_slice-before.result.now place c.args.charted.next.now (length c.args.charted.chart.now.before.items)
    (gathered c.args.charted.chart.now.before.items (length c.args.charted.chart.now.before.items) place c.index.result.now c.as_slice-before.result.now (places_from 0 place c.args.charted.next.now)
    refl inside c.as_slice-before.ensures c.index.ensures (c.requires.chart.before place (omega (arith, inside, c.requires.chart.before_length))))
    (omega (arith, c.requires.chart.before_length))

pub add_back-requires-clause-target : goal.add_back-requires-clause-target
add_back-requires-clause-target c = cell-state c.args.cell (length c.args.charted.chart.now.nfa.states) c.len-states.result c.len-states.ensures c.requires.chart.drawn.some
