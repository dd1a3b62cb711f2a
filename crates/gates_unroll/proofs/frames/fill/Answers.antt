use Rattle.std.proofs.Common.{Err, fold, subst, ◌∙◌, arith}
use Rattle.std.proofs.lemmas.Result.{err_from_is_err_and}
use Rattle.netlist.specs.Valuations.{bit}
use Rattle.netlist.proofs.Driving.{latches-within, outputs-within}
use Rattle.gates_frames.specs.Frames.{with_input, with_latch}
use Rattle.gates_unroll.specs.Adding.{filled, frame_of, Writes}
use Rattle.gates_unroll.specs.Sources.{latch_by}
use Rattle.gates_unroll.proofs.Folds.{writes-fail, writes-then}
use Rattle.gates_unroll.proofs.Growing.{inputs-more, latches-more}
use Rattle.gates_unroll.proofs.frames.fill.Goals as goal

pub returns-in_err-add_inputs : goal.returns-in_err-add_inputs
returns-in_err-add_inputs c =
    let old = c.args.builder.now in
    let design = c.args.netlist.now in
    let cone = bit c.args.cone.now in
    let number = c.args.number in
    let now = frame_of old c.args.literals.now in
    let fault = c.in_err-add_inputs.field-0.0 in
    let part = subst (λ inputs. Writes old c.add_inputs.new.builder c.add_inputs.new.literals (fold (with_input old.given cone number) now inputs) (Err fault)) (c.as_slice.ensures ∙ c.inputs.ensures)
    c.in_err-add_inputs.ensures in
    let p = err_from_is_err_and c.from_residual.result c.from_residual.ensures.1 in
    rw (p.1, p.2)
    (writes-fail old c.add_inputs.new.builder c.add_inputs.new.literals (fold (with_input old.given cone number) now design.inputs)
    (filled old.covers old.given design c.args.order.now cone number (latch_by c.args.source old.given) now) fault
    (inputs-more old.given old.covers design c.args.order.now cone number c.args.source now) part)

pub add_latches-requires-clause-cone : goal.add_latches-requires-clause-cone
add_latches-requires-clause-cone c = rw (c.as_slice-2.ensures, c.latches.ensures, c.requires.cone) (latches-within c.args.netlist.now c.soundness_law.ensures.sound)

pub add_latches-requires-clause-signals : goal.add_latches-requires-clause-signals
add_latches-requires-clause-signals c = rw (c.as_slice-2.ensures, c.latches.ensures)
    (λ k d lt. omega (arith, latches-within c.args.netlist.now c.soundness_law.ensures.sound k d lt, c.add_inputs.auto.literals, c.requires.size))

pub returns-in_err-add_latches : goal.returns-in_err-add_latches
returns-in_err-add_latches c =
    let old = c.args.builder.now in
    let design = c.args.netlist.now in
    let cone = bit c.args.cone.now in
    let number = c.args.number in
    let source = c.args.source in
    let now = frame_of old c.args.literals.now in
    let fault = c.in_err-add_latches.field-0.0 in
    let first = fold (with_input old.given cone number) now c.as_slice.result.now in
    let both = writes-then (λ given. with_latch cone (latch_by source given)) old c.add_inputs.new.builder c.add_latches.new.builder c.add_inputs.new.literals c.add_latches.new.literals first
    c.as_slice-2.result.now (Err fault) c.in_ok-add_inputs.ensures c.in_err-add_latches.ensures in
    let part = subst (λ inputs. Writes old c.add_latches.new.builder c.add_latches.new.literals
    (fold (with_latch cone (latch_by source old.given)) (fold (with_input old.given cone number) now inputs) c.as_slice-2.result.now) (Err fault)) (c.as_slice.ensures ∙ c.inputs.ensures) both in
    let all = subst (λ latches. Writes old c.add_latches.new.builder c.add_latches.new.literals
    (fold (with_latch cone (latch_by source old.given)) (fold (with_input old.given cone number) now design.inputs) latches) (Err fault)) (c.as_slice-2.ensures ∙ c.latches.ensures) part in
    let p = err_from_is_err_and c.from_residual-in_err-add_latches.result c.from_residual-in_err-add_latches.ensures.1 in
    rw (p.1, p.2)
    (writes-fail old c.add_latches.new.builder c.add_latches.new.literals (fold (with_latch cone (latch_by source old.given)) (fold (with_input old.given cone number) now design.inputs) design.latches)
    (filled old.covers old.given design c.args.order.now cone number (latch_by source old.given) now) fault
    (latches-more old.given old.covers design c.args.order.now cone number source now) all)

pub add_tables-requires-clause-cone : goal.add_tables-requires-clause-cone
add_tables-requires-clause-cone c = rw (c.as_slice-3.ensures, c.tables.ensures, c.requires.cone) (outputs-within c.args.netlist.now c.soundness_law.ensures.sound)

pub add_tables-requires-clause-signals : goal.add_tables-requires-clause-signals
add_tables-requires-clause-signals c = rw (c.as_slice-3.ensures, c.tables.ensures)
    (λ k d lt. omega (arith, outputs-within c.args.netlist.now c.soundness_law.ensures.sound k d lt, c.add_inputs.auto.literals, c.add_latches.auto.literals, c.requires.size))
