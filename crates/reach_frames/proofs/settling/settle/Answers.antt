use Rattle.std.proofs.Common.{◌≡◌, ℕ, suc, ◌+◌, ◌-◌, ◌≤◌, [], List, Bool, length, get_or, sym, ap, ◌∙◌, subst, arith, add-one}
use Rattle.std.proofs.lemmas.List.{length_push}
use Rattle.reach_frames.specs.Searches.{frame_in, AreNarrowed, AreSettled}
use Rattle.reach_frames.specs.Systems.{IsStuck, MissesGoal}
use Rattle.reach_frames.proofs.Closing.{ready_fits}
use Rattle.reach_frames.proofs.Ending.{goal_missed, goal_still, invariant_from, open_from}
use Rattle.reach_frames.proofs.Narrowing.{narrowed_then}
use Rattle.reach_frames.proofs.Staying.{stuck_more}
use Rattle.reach_frames.proofs.settling.settle.Goals as goal

pub frame-requires : goal.frame-requires
frame-requires g c =
    let system = g.M.Machine.system c.args.machine.now in
    let settled : AreSettled system c.loop-place.place c.loop-place.frames c.settle_level.new.frames = c.in_ok-state.ensures.settled in
    ready_fits system c.settle_level.new.frames (c.loop-place.place + 1) settled.narrowed.ready

pub returns-in-None-clause-step : goal.returns-in-None-clause-step
returns-in-None-clause-step g c =
    let system = g.M.Machine.system c.args.machine.now in
    let old = c.args.frames.now in
    let mid = c.loop-place.frames in
    let new = c.settle_level.new.frames in
    let place = c.loop-place.place in
    let settled : AreSettled system place mid new = c.in_ok-state.ensures.settled in
    let narrowed = narrowed_then system old mid new c.loop-place.invariant.narrowed settled.narrowed in
    let last = length old - 1 in
    let missed = goal_still system old new last narrowed c.requires.kept in
    let below : suc place ≤ last = omega (arith, c.loop-place-test.true, c.len-place-end.ensures) in
    let same : frame_in new place ≡ frame_in new (place + 1) = rw c.in-None.is at c.in_ok-state.ensures.moves in
    let same : frame_in new place ≡ frame_in new (suc place) = same ∙ ap (frame_in new) (add-one place) in
    rw (c.in_ok-frame-in-None.ensures, add-one place)
    (invariant_from system new place settled.narrowed.ready same (goal_missed system new (suc place) last below missed))

pub loop-place-preserved : goal.loop-place-preserved
loop-place-preserved g c =
    let system = g.M.Machine.system c.args.machine.now in
    let old = c.args.frames.now in
    let mid = c.loop-place.frames in
    let new = c.settle_level.new.frames in
    let place = c.loop-place.place in
    let settled : AreSettled system place mid new = c.in_ok-state.ensures.settled in
    let here : IsStuck system (frame_in new place) c.in-Some.state = rw c.in-Some.is at c.in_ok-state.ensures.stays in
    let pushed = c.in_ok-push-in-Some.ensures.ok in
    let each = stuck_more system mid new place c.loop-place.stuck c.in-Some.state settled c.loop-place.invariant.many c.loop-place.invariant.stuck here in
    record {
      narrowed = narrowed_then system old mid new c.loop-place.invariant.narrowed settled.narrowed;
      many = ap length pushed ∙ omega (arith, length_push c.loop-place.stuck c.in-Some.state, c.loop-place.invariant.many);
      stuck = λ other below.
          subst (λ (states : List (List Bool)). IsStuck system (frame_in new other) (get_or states other [])) (sym pushed) (each other below);
    }

pub returns-clause-step : goal.returns-clause-step
returns-clause-step g c =
    let system = g.M.Machine.system c.args.machine.now in
    let old = c.args.frames.now in
    let new = c.loop-place.frames in
    let stuck = c.loop-place.stuck in
    let narrowed : AreNarrowed system old new = c.loop-place.invariant.narrowed in
    let count : length stuck + 1 ≡ length new =
    omega (arith, c.loop-place.invariant.many, c.loop-place-test.false, c.loop-place.auto.place-end, c.len-place-end.ensures, narrowed.many, c.requires.some) in
    let last : length old - 1 ≡ length new - 1 = omega (arith, narrowed.many) in
    let missed = goal_still system old new (length old - 1) narrowed c.requires.kept in
    let missed : MissesGoal system (frame_in new (length new - 1)) = subst (λ (k : ℕ). MissesGoal system (frame_in new k)) last missed in
    open_from system new stuck narrowed.ready count missed
    (λ place below. c.loop-place.invariant.stuck place (omega (arith, below, c.loop-place.invariant.many)))
