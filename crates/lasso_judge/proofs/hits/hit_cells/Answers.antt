use Rattle.std.proofs.Common.{◌≡◌, ◌∙◌, ◌<◌, [], sym, ap, Bool as Truth, List, length, rules}
use Rattle.sere_nfa.proofs.Reach.{work}
use Rattle.lasso_judge.specs.MarkingView.{marking_of}
use Rattle.lasso_judge.proofs.Charted.{cells-are, hits-begin, hits-below, found-below, hits-more, hits-end}
use Rattle.lasso_judge.proofs.Hitting.{IsHitSearch}
use Rattle.lasso_judge.proofs.hits.hit_cells.Goals as goal

pub loop-cell-init : goal.loop-cell-init
loop-cell-init c = hits-begin c.args.charted.word.now c.args.charted.flipped c.args.charted.next.now c.args.charted.chart.now c.requires.chart c.requires.whole c.args.hits.now (marking_of c.in_ok-marking.marking) c.in_ok-marking.ensures

pub cells_before-requires-clause-within : goal.cells_before-requires-clause-within
cells_before-requires-clause-within c =
    hits-below c.args.charted.word.now c.args.charted.flipped c.args.charted.next.now c.args.charted.chart.now c.requires.chart c.requires.whole c.args.hits.now (marking_of c.loop-cell.marking) c.pop.new.self.items c.in-Some.cell c.loop-cell.invariant c.in-Some.ensures.items

pub cells_before-requires-clause-marks : goal.cells_before-requires-clause-marks
cells_before-requires-clause-marks c = ap (λ (ms : List Truth). length ms) c.deref.ensures.value
    ∙ (c.loop-cell.invariant.same_length ∙ sym (cells-are c.args.charted.word.now c.args.charted.flipped c.args.charted.next.now c.args.charted.chart.now c.requires.chart))

pub visit_each-requires : goal.visit_each-requires
visit_each-requires c =
    let below = hits-below c.args.charted.word.now c.args.charted.flipped c.args.charted.next.now c.args.charted.chart.now c.requires.chart c.requires.whole c.args.hits.now (marking_of c.loop-cell.marking) c.pop.new.self.items c.in-Some.cell c.loop-cell.invariant c.in-Some.ensures.items in
    found-below c.args.charted.word.now c.args.charted.flipped c.args.charted.next.now c.args.charted.chart.now c.requires.chart c.in-Some.cell (length c.loop-cell.marking.marks.items) c.deref.result.now c.cells_before.new.found.items c.deref-in-Some.result.now c.loop-cell.invariant.same_length below
    c.in_ok-cells_before.ensures c.deref-in-Some.ensures.value

stepped : (c : goal.In_ok-visit_each) → IsHitSearch c.args.charted.word.now c.args.charted.flipped c.args.charted.next.now c.args.charted.chart.now.nfa.states c.args.charted.chart.now.arrows.items c.args.hits.now (marking_of c.visit_each.new.self)
    × (work (marking_of c.visit_each.new.self) < work (marking_of c.loop-cell.marking))
stepped c = hits-more c.args.charted.word.now c.args.charted.flipped c.args.charted.next.now c.args.charted.chart.now c.requires.chart c.requires.whole c.args.hits.now (marking_of c.loop-cell.marking) c.pop.new.self.items c.in-Some.cell c.deref.result.now c.cells_before.new.found.items c.deref-in-Some.result.now
    (marking_of c.visit_each.new.self) c.loop-cell.invariant c.in-Some.ensures.items c.deref.ensures.value c.in_ok-cells_before.ensures c.deref-in-Some.ensures.value c.in_ok-visit_each.ensures

pub loop-cell-preserved : goal.loop-cell-preserved
loop-cell-preserved c = (stepped c).0

pub loop-cell-smaller : goal.loop-cell-smaller
loop-cell-smaller c = (stepped c).1

pub returns : goal.returns
returns c =
    let done : c.loop-cell.marking.waiting.items ≡ [] = search rules in
    hits-end c.args.charted.word.now c.args.charted.flipped c.args.charted.next.now c.args.charted.chart.now c.requires.chart c.requires.whole c.args.hits.now (marking_of c.loop-cell.marking) c.loop-cell.invariant done
