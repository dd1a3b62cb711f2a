use Rattle.std.proofs.Common.{◌≡◌, ◌∙◌, ◌<◌, [], sym, ap, Bool as Truth, List, length, rules}
use Rattle.sere_nfa.proofs.Reach.{work}
use Rattle.lasso_judge.specs.MarkingView.{marking_of}
use Rattle.lasso_judge.proofs.Charted.{cells-are, falls-begin, falls-below, found-below, falls-more, falls-end}
use Rattle.lasso_judge.proofs.Lasting.{IsFallSearch}
use Rattle.lasso_judge.proofs.lasts.fallen_cells.Goals as goal

pub loop-cell-init : goal.loop-cell-init
loop-cell-init c = record {
  search = falls-begin c.args.charted.word.now c.args.charted.flipped c.args.charted.next.now c.args.charted.chart.now c.requires.chart c.requires.whole (marking_of c.in_ok-marking.marking) c.in_ok-marking.ensures.fallen;
  passed = c.in_ok-marking.ensures.passed;
}

pub cells_before-requires-clause-within : goal.cells_before-requires-clause-within
cells_before-requires-clause-within c =
    falls-below c.args.charted.word.now c.args.charted.flipped c.args.charted.next.now c.args.charted.chart.now c.requires.chart c.requires.whole (marking_of c.loop-cell.marking) c.pop.new.self.items c.in-Some.cell c.loop-cell.invariant.search c.in-Some.ensures.items

pub cells_before-requires-clause-marks : goal.cells_before-requires-clause-marks
cells_before-requires-clause-marks c = ap (λ (ms : List Truth). length ms) c.deref.ensures.value
    ∙ (c.loop-cell.invariant.search.same_length ∙ sym (cells-are c.args.charted.word.now c.args.charted.flipped c.args.charted.next.now c.args.charted.chart.now c.requires.chart))

pub fall_each-requires-clause-cells : goal.fall_each-requires-clause-cells
fall_each-requires-clause-cells c =
    let below = falls-below c.args.charted.word.now c.args.charted.flipped c.args.charted.next.now c.args.charted.chart.now c.requires.chart c.requires.whole (marking_of c.loop-cell.marking) c.pop.new.self.items c.in-Some.cell c.loop-cell.invariant.search c.in-Some.ensures.items in
    found-below c.args.charted.word.now c.args.charted.flipped c.args.charted.next.now c.args.charted.chart.now c.requires.chart c.in-Some.cell c.args.charted.chart.now.cells c.deref.result.now c.cells_before.new.found.items c.deref-in-Some.result.now (cells-are c.args.charted.word.now c.args.charted.flipped c.args.charted.next.now c.args.charted.chart.now c.requires.chart) below
    c.in_ok-cells_before.ensures c.deref-in-Some.ensures.value

pub fall_each-requires-clause-marks : goal.fall_each-requires-clause-marks
fall_each-requires-clause-marks c = c.loop-cell.invariant.search.same_length ∙ sym (cells-are c.args.charted.word.now c.args.charted.flipped c.args.charted.next.now c.args.charted.chart.now c.requires.chart)

stepped : (c : goal.In_ok-fall_each) → IsFallSearch c.args.charted.word.now c.args.charted.flipped c.args.charted.next.now c.args.charted.chart.now.nfa.states [] (marking_of c.fall_each.new.marking)
    × (work (marking_of c.fall_each.new.marking) < work (marking_of c.loop-cell.marking))
stepped c = falls-more c.args.charted.word.now c.args.charted.flipped c.args.charted.next.now c.args.charted.chart.now c.requires.chart c.requires.whole (marking_of c.loop-cell.marking) c.pop.new.self.items c.in-Some.cell c.deref.result.now c.cells_before.new.found.items c.deref-in-Some.result.now
    (marking_of c.fall_each.new.marking) c.loop-cell.invariant.search c.in-Some.ensures.items c.deref.ensures.value c.in_ok-cells_before.ensures c.deref-in-Some.ensures.value c.in_ok-fall_each.ensures.marking

pub loop-cell-preserved : goal.loop-cell-preserved
loop-cell-preserved c = record { search = (stepped c).0; passed = c.in_ok-fall_each.ensures.passed }

pub loop-cell-smaller : goal.loop-cell-smaller
loop-cell-smaller c = (stepped c).1

pub returns : goal.returns
returns c =
    let done : c.loop-cell.marking.waiting.items ≡ [] = search rules in
    falls-end c.args.charted.word.now c.args.charted.flipped c.args.charted.next.now c.args.charted.chart.now c.requires.chart c.requires.whole (marking_of c.loop-cell.marking) c.loop-cell.invariant.search done
