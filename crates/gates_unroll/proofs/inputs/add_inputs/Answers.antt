use Rattle.std.proofs.Common.{fold, arith}
use Rattle.std.proofs.lemmas.Result.{err_from_is_err_and}
use Rattle.netlist.specs.Valuations.{bit}
use Rattle.gates_frames.specs.Frames.{with_input}
use Rattle.gates_unroll.specs.Adding.{frame_of}
use Rattle.gates_unroll.proofs.Folds.{so_far-err}
use Rattle.gates_unroll.proofs.Growing.{inputs-grow}
use Rattle.gates_unroll.proofs.inputs.add_inputs.Goals as goal

pub returns-in_err-add_input : goal.returns-in_err-add_input
returns-in_err-add_input c =
    let old = c.args.builder.now in
    let cone = bit c.args.cone.now in
    let number = c.args.number in
    let p = err_from_is_err_and c.from_residual.result c.from_residual.ensures.1 in
    rw (p.1, p.2)
    (so_far-err (λ covers given. with_input given cone number) old c.loop-i.builder c.add_input.new.builder c.loop-i.literals c.add_input.new.literals c.args.inputs.now c.loop-i.i 0
    (fold (with_input old.given cone number) (frame_of old c.args.literals.now) c.args.inputs.now) c.in_err-add_input.field-0.0 (omega arith) (inputs-grow old.given cone number)
    c.loop-i.invariant c.in_err-add_input.ensures)
