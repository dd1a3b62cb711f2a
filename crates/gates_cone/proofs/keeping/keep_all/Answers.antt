use Rattle.std.proofs.Common.{◌<◌, length, arith}
use Rattle.gates_cone.proofs.Kept.{goes-then, keeps-more}
use Rattle.gates_cone.proofs.keeping.keep_all.Goals as goal

pub loop-i-preserved : goal.loop-i-preserved
loop-i-preserved c =
    let i = c.loop-i.i in
    let signals = c.args.signals.now in
    let lt : i < length signals = omega arith in
    record {
      keeps = keeps-more c.args.kept.now c.loop-i.kept c.keep.new.kept signals i lt c.loop-i.invariant.keeps c.in_ok-keep.ensures.keeps;
      listed = c.in_ok-keep.ensures.listed;
      goes_on = goes-then c.args.found.now.items c.loop-i.found.items c.keep.new.found.items c.loop-i.invariant.goes_on c.in_ok-keep.ensures.goes_on;
    }
