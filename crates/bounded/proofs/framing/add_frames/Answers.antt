use Rattle.std.proofs.Common.{◌∙◌, suc, ◌+◌, ℤ, true, List, [], length, sym, ap, subst, arith}
use Rattle.std.proofs.lemmas.Result.{err_from_is_err_and}
use Rattle.gates_builder.specs.Adding.{AreOf}
use Rattle.gates_builder.proofs.CubeSteps.{get-is}
use Rattle.netlist.specs.Valuations.{bit}
use Rattle.bounded.proofs.FramesBuilt.{FramesSoFar, at, frames-long, frames-next, next-large}
use Rattle.bounded.proofs.framing.add_frames.Goals as goal

pub returns-in_err-first-clause-large : goal.returns-in_err-first-clause-large
returns-in_err-first-clause-large c =
    let old = c.args.builder.now in
    let more = c.growing_law.ensures.later old.covers old.given c.args.netlist.now c.args.order.now (bit c.args.cone.now) true old.nodes 0 c.args.last (omega arith) in
    let p = err_from_is_err_and c.from_residual.result c.from_residual.ensures.1 in
    rw (p.1, p.2) (λ e. (let large = c.in_err-first.ensures.frame.large e in omega (arith, more, large)))

pub at-before-requires : goal.at-before-requires
at-before-requires c =
    let old = c.args.builder.now in
    frames-long (at c.args.netlist.now c.args.order.now (bit c.args.cone.now) old) old c.loop-earlier.builder c.loop-earlier.frames c.loop-earlier.earlier c.args.netlist.now.signals c.loop-earlier.invariant

pub next_frame-requires-clause-size : goal.next_frame-requires-clause-size
next_frame-requires-clause-size c =
    let found = get-is c.loop-earlier.frames c.loop-earlier.earlier c.at-before.result.now [] c.at-before.ensures in
    ap (λ (l : List ℤ). length l) (sym found) ∙ c.loop-earlier.invariant.sizes c.loop-earlier.earlier [] (frames-long (at c.args.netlist.now c.args.order.now (bit c.args.cone.now) c.args.builder.now) c.args.builder.now c.loop-earlier.builder c.loop-earlier.frames c.loop-earlier.earlier c.args.netlist.now.signals c.loop-earlier.invariant)

pub next_frame-requires-clause-before : goal.next_frame-requires-clause-before
next_frame-requires-clause-before c =
    let found = get-is c.loop-earlier.frames c.loop-earlier.earlier c.at-before.result.now [] c.at-before.ensures in
    subst (λ (l : List ℤ). AreOf c.loop-earlier.builder l) found (c.loop-earlier.invariant.of c.loop-earlier.earlier [] (frames-long (at c.args.netlist.now c.args.order.now (bit c.args.cone.now) c.args.builder.now) c.args.builder.now c.loop-earlier.builder c.loop-earlier.frames c.loop-earlier.earlier c.args.netlist.now.signals c.loop-earlier.invariant))

pub returns-in_err-next-clause-large : goal.returns-in_err-next-clause-large
returns-in_err-next-clause-large c =
    let old = c.args.builder.now in
    let d = c.args.netlist.now in
    let cone = bit c.args.cone.now in
    let number = c.loop-earlier.earlier in
    let more = c.growing_law.ensures.later old.covers old.given d c.args.order.now cone true old.nodes (suc number) c.args.last (omega arith) in
    let p = err_from_is_err_and c.from_residual-in_err-next.result c.from_residual-in_err-next.ensures.1 in
    rw (p.1, p.2) (λ e. next-large d c.args.order.now cone old c.loop-earlier.builder c.loop-earlier.frames number c.at-before.result.now c.loop-earlier.invariant c.at-before.ensures c.args.last more
    (c.in_err-next.ensures.frame.large e))

pub loop-earlier-preserved : goal.loop-earlier-preserved
loop-earlier-preserved c =
    let old = c.args.builder.now in
    let d = c.args.netlist.now in
    let cone = bit c.args.cone.now in
    let number = c.loop-earlier.earlier in
    let next = frames-next d c.args.order.now cone old c.loop-earlier.builder c.loop-earlier.frames number c.at-before.result.now c.loop-earlier.invariant c.at-before.ensures c.next_frame.new.builder c.in_ok-next.next
    c.in_ok-next.ensures.frame c.in_ok-next.ensures.size in
    subst (λ (fs : List (List ℤ)). FramesSoFar (at d c.args.order.now cone old) old c.next_frame.new.builder fs (number + 1) d.signals) (sym c.in_ok-push.ensures.ok) next
