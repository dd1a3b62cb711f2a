use Rattle.std.proofs.Common.{fold, arith}
use Rattle.std.proofs.lemmas.Result.{err_from_is_err_and}
use Rattle.netlist.specs.declared.latch.Init.TheVariants as inits
use Rattle.netlist.specs.Valuations.{bit}
use Rattle.gates_frames.specs.Frames.{with_latch}
use Rattle.gates_unroll.specs.Adding.{frame_of}
use Rattle.gates_unroll.specs.Sources.{latch_by}
use Rattle.gates_unroll.proofs.Folds.{so_far-err}
use Rattle.gates_unroll.proofs.Growing.{latches-grow}
use Rattle.gates_unroll.proofs.latches.add_latches.Goals as goal

pub returns-in_err-add_latch : goal.returns-in_err-add_latch
returns-in_err-add_latch c =
    let old = c.args.builder.now in
    let cone = bit c.args.cone.now in
    let source = c.args.source in
    let p = err_from_is_err_and c.from_residual.result c.from_residual.ensures.1 in
    rw (p.1, p.2)
    (so_far-err (λ covers given. with_latch cone (latch_by source given)) old c.loop-i.builder c.add_latch.new.builder c.loop-i.literals c.add_latch.new.literals c.args.latches.now c.loop-i.i
    (record { input = 0; output = 0; init = inits.Zero }) (fold (with_latch cone (latch_by source old.given)) (frame_of old c.args.literals.now) c.args.latches.now) c.in_err-add_latch.field-0.0 (omega arith) (latches-grow old.given cone source)
    c.loop-i.invariant c.in_err-add_latch.ensures)
