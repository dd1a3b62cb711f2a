use Rattle.std.proofs.Common.{fold, arith}
use Rattle.std.proofs.lemmas.Result.{err_from_is_err_and}
use Rattle.netlist.specs.Valuations.{bit}
use Rattle.gates_frames.specs.Frames.{with_table}
use Rattle.gates_unroll.specs.Adding.{frame_of}
use Rattle.gates_unroll.proofs.Folds.{so_far-err, so_far-next}
use Rattle.gates_unroll.proofs.Growing.{tables-grow}
use Rattle.gates_unroll.proofs.tables.add_tables.Goals as goal

pub loop-i-preserved : goal.loop-i-preserved
loop-i-preserved c =
    let old = c.args.builder.now in
    let cone = bit c.args.cone.now in
    let tables = c.args.tables.now in
    so_far-next (λ covers given. with_table covers given tables cone) old c.loop-i.builder c.add_table.new.builder c.loop-i.literals c.add_table.new.literals c.args.order.now c.loop-i.i 0
    (fold (with_table old.covers old.given tables cone) (frame_of old c.args.literals.now) c.args.order.now) (omega arith) c.loop-i.invariant c.in_ok-add_table.ensures

pub returns-in_err-add_table : goal.returns-in_err-add_table
returns-in_err-add_table c =
    let old = c.args.builder.now in
    let cone = bit c.args.cone.now in
    let tables = c.args.tables.now in
    let p = err_from_is_err_and c.from_residual.result c.from_residual.ensures.1 in
    rw (p.1, p.2)
    (so_far-err (λ covers given. with_table covers given tables cone) old c.loop-i.builder c.add_table.new.builder c.loop-i.literals c.add_table.new.literals c.args.order.now c.loop-i.i 0
    (fold (with_table old.covers old.given tables cone) (frame_of old c.args.literals.now) c.args.order.now) c.in_err-add_table.field-0.0 (omega arith) (tables-grow old.given old.covers tables cone)
    c.loop-i.invariant c.in_err-add_table.ensures)
