use Rattle.std.proofs.Common.{◌≡◌, ◌-◌, ◌+◌, suc, length, subst, arith}
use Rattle.netlist.specs.Valuations.{bit}
use Rattle.prover_held.specs.Judged.{AreAsked}
use Rattle.prover_held.proofs.Asking.{asked-more}
use Rattle.prover_held.proofs.judge.asked_first.Goals as goal

pub loop-place-preserved : goal.loop-place-preserved
loop-place-preserved c =
    let n = length c.args.path.now in
    let place = c.loop-place.place in
    let here : suc ((place - 1) + (n - place)) ≡ n = omega (arith, c.loop-place-test.true, c.loop-place.auto.place, c.len-place.ensures) in
    let e : suc (n - place) ≡ n - (place - 1) = omega (arith, c.loop-place-test.true, c.loop-place.auto.place, c.len-place.ensures) in
    subst (λ k. AreAsked c.args.netlist.now c.args.automaton.now c.args.path.now (bit c.args.kept.now) k c.in_ok-found-2.found) e
    (asked-more c.args.netlist.now c.args.automaton.now c.args.path.now c.requires.sound (bit c.args.kept.now) (n - place) (place - 1)
    c.loop-place.found c.in_ok-found-2.found here c.loop-place.invariant c.in_ok-found-2.ensures.long c.in_ok-found-2.ensures.each)
