use Rattle.std.proofs.Common.{◌≡◌, max, get_or, rules, arith}
use Rattle.gates_order.proofs.Depths.{most-taken}
use Rattle.gates_order.proofs.levels.deepest.Goals as goal

pub loop-signal-preserved : goal.loop-signal-preserved
loop-signal-preserved c =
    let signals = c.args.signals.now in
    let i = c.loop-signal.signal-index in
    let is : c.max-most.result ≡ max c.loop-signal.most (get_or c.args.levels.now (get_or signals i 0) 0) = search rules in
    most-taken (λ signal. get_or c.args.levels.now signal 0) signals i c.loop-signal.most c.max-most.result (omega arith) c.loop-signal.invariant is
