use Rattle.std.proofs.Common.{◌≡◌, ◌+◌, ◌∷◌, length, get_or, take, drop, false, sym, ap, ◌∙◌, arith}
use Rattle.std.proofs.lemmas.List.{drop_more, get_or_read, length-set}
use Rattle.cdcl_propagation.specs.declared.watch.Watch.{Watch}
use Rattle.cdcl_propagation.specs.Watching.{IsVisiting}
use Rattle.cdcl_propagation.proofs.Stepping.{stepped-kept, stepped-gone, list-kept, extends-both}
use Rattle.cdcl_propagation.proofs.work.visit_list.Goals as goal
use Rattle.cdcl_propagation.proofs.work.visit_list.Goals.{in-Keep, in-Gone}

abbrev no_watch : Watch
no_watch = record { number = 0; blocker = 0; is_short = false }

pub visit-requires-clause-entry : goal.visit-requires-clause-entry
visit-requires-clause-entry c =
    let at = c.loop-next in
    let same : c.watch.result ≡ get_or at.list at.next no_watch =
    c.watch.ensures.is ∙ get_or_read at.list at.next c.index-list-next.result c.loop-next-test.true c.index-list-next.is no_watch in
    let entries = rw (drop_more at.list at.next no_watch c.loop-next-test.true) at at.invariant.visiting.rest_entries in
    rw same (entries 0 no_watch (omega arith))

pub loop-next-preserved : goal.loop-next-preserved
loop-next-preserved c =
    let at = c.loop-next in
    let clauses = c.args.clauses.now in
    let literal = c.opposite-literal.result in
    let watch = c.watch.result in
    let same : watch ≡ get_or at.list at.next no_watch =
    c.watch.ensures.is ∙ get_or_read at.list at.next c.index-list-next.result c.loop-next-test.true c.index-list-next.is no_watch in
    let rest = drop (at.next + 1) at.list in
    let visiting : IsVisiting clauses at.pairs at.lists at.trail c.args.head literal (take at.kept at.list) (watch ∷ rest) =
    rw (same, sym (drop_more at.list at.next no_watch c.loop-next-test.true)) at.invariant.visiting in
    elim c.match-visit.branch [
      | in-Keep w ↦
          let step = stepped-kept clauses at.pairs at.lists at.trail c.args.head literal (take at.kept at.list) rest watch w.in-Keep.watch c.visit.new.pairs c.visit.new.lists c.visit.new.trail visiting at.invariant.reasons w.in-Keep.ensures in
          let lists = list-kept at.list at.kept at.next w.in-Keep.watch at.invariant.order c.loop-next-test.true in
          record {
            visiting = rw (w.list-is, w.kept-is, w.new.ensures, lists.0, lists.1) step.visiting;
            reasons = step.reasons;
            grown = extends-both c.args.trail.now at.trail c.visit.new.trail at.invariant.grown step.grown;
            order = omega (arith, w.kept-is, at.invariant.order);
            within = omega (arith, ap length w.list-is, length-set at.list at.kept w.new.result, c.loop-next-test.true);
          }
      | in-Gone w ↦
          let step = stepped-gone clauses at.pairs at.lists at.trail c.args.head literal (take at.kept at.list) rest watch c.visit.new.pairs c.visit.new.lists c.visit.new.trail visiting at.invariant.reasons w.in-Gone.ensures in
          record {
            visiting = rw (w.list-is, w.kept-is) step.visiting;
            reasons = step.reasons;
            grown = extends-both c.args.trail.now at.trail c.visit.new.trail at.invariant.grown step.grown;
            order = omega (arith, w.kept-is, at.invariant.order);
            within = omega (arith, ap length w.list-is, c.loop-next-test.true);
          }
    ]
