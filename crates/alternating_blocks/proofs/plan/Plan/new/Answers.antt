use Rattle.std.proofs.Common.{sym, ap, ◌∙◌, subst, List, length, arith}
use Rattle.std.proofs.lemmas.List.{length_push}
use Rattle.alternating_theory.specs.Positive.{Positive}
use Rattle.alternating_blocks.proofs.Planned.{one-stands}
use Rattle.alternating_blocks.proofs.plan.Plan.new.Goals as goal
use Rattle.alternating_blocks.specs.Plan.{StandFor, NodeWithin, bare_positive}
use Rattle.alternating_blocks.specs.declared.plan.Node as code_node

pub loop-number-preserved : goal.loop-number-preserved
loop-number-preserved c =
    let within = subst (λ n. NodeWithin n (length c.planned.new.tests.items) c.in_ok-node.node) c.len.ensures c.in_ok-node.ensures.within in
    let more = one-stands c.args.automaton.now c.loop-number.tests.items c.planned.new.tests.items c.loop-number.deltas.items c.in_ok-node.node c.loop-number.number c.loop-number.invariant.count
    c.in_ok-node.ensures.grown c.loop-number.invariant.deltas (c.in_ok-node.ensures.same ∙ ap (λ (p : Positive). bare_positive p) c.delta-delta.ensures.shown) within in
    record {
      count = omega (arith, ap length c.in_ok-push.ensures.items, length_push c.loop-number.deltas.items c.in_ok-node.node, c.loop-number.invariant.count);
      deltas = subst (λ (l : List code_node.Node). StandFor c.args.automaton.now c.planned.new.tests.items l) (sym c.in_ok-push.ensures.items) more;
    }
