use Rattle.std.proofs.Common.{◌≡◌, ◌<◌, ◌≤◌, ◌∙◌, get_or, length, subst, arith}
use Rattle.std.proofs.lemmas.List.{get_or_default}
use Rattle.gates_cone.specs.Keeping.{Keeps}
use Rattle.gates_cone.proofs.Closing.{reads_by, so_far-next, spreads}
use Rattle.gates_cone.proofs.spreading.spread.Goals as goal

pub loop-next-preserved : goal.loop-next-preserved
loop-next-preserved c =
    let design = c.args.netlist.now in
    let drivers = c.args.drivers.now in
    let found = c.loop-next.found.items in
    let next = c.loop-next.next in
    let lt : next < length found = omega arith in
    let signal_is : c.index-signal.result.now ≡ get_or c.loop-next.found.items c.loop-next.next 0 =
    c.index-signal.ensures ∙ get_or_default c.loop-next.found.items c.loop-next.next c.index-signal.result.now 0 lt in
    so_far-next design drivers c.args.kept.now c.loop-next.kept c.follow.new.kept found c.follow.new.found.items next c.requires.drivers lt c.follow.auto.kept c.loop-next.invariant
    (subst (λ signal. Keeps c.loop-next.kept c.follow.new.kept (reads_by design drivers signal)) signal_is c.in_ok-follow.ensures.keeps) c.in_ok-follow.ensures.listed c.in_ok-follow.ensures.goes_on

pub returns : goal.returns
returns c =
    let end : length c.loop-next.found.items ≤ c.loop-next.next = omega arith in
    spreads c.args.netlist.now c.args.drivers.now c.args.kept.now c.loop-next.kept c.loop-next.found.items c.loop-next.next c.requires.drivers end c.loop-next.invariant
