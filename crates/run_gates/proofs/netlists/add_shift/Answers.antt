use Rattle.std.proofs.Common.{rules, ℕ, ◌+◌, ◌-◌, ◌<◌, arith, Ok, map, w32}
use mir.Val.{SFits}
use Rattle.std.specs.List.{range_with_len}
use Rattle.std.proofs.lemmas.Int.{to_z-of_z}
use Rattle.gates_theory.specs.Terms.{Term}
use Rattle.run_terms.specs.Moves.{same_term, shift_terms}
use Rattle.run_terms.specs.Positions.{earlier, current}
use Rattle.run_gates.specs.Building.{Builds}
use Rattle.run_gates.proofs.Terms.{number-next, held-step}
use Rattle.run_gates.proofs.netlists.add_shift.Goals as goal

pub loop-signal-preserved : goal.loop-signal-preserved
loop-signal-preserved c =
    let signal = c.loop-signal.signal in
    let signals = c.args.position.signals in
    let base = c.args.position.base in
    let next = c.args.next.base in
    let f : ℕ → Term = λ i. same_term (earlier next i) (current signals base i) in
    let below : signal < signals = omega arith in
    let fits_earlier : SFits w32 c.earlier.result = search rules in
    let fits_current : SFits w32 c.current.result = search rules in
    let stays = c.in_ok-stays.stays in
    let fits_stays : SFits w32 stays = search rules in
    let before = rw (number-next f signals signal below) at c.loop-signal.invariant.so_far in
    let held = simp to_z-of_z at c.in_ok-hold.ensures in
    let gates = rw (c.earlier.ensures.is, c.current.ensures.is) at (simp to_z-of_z at c.in_ok-stays.ensures.gates) in
    let output = c.in_ok-stays.ensures.output in
    let builds : Builds c.loop-signal.gates c.equal.new.self (f signal) (Ok stays) =
    record { gates = gates; output = output; literal = c.in_ok-stays.ensures.literal; size = c.in_ok-stays.ensures.size; large = tt } in
    record {
      so_far = held-step c.args.gates.now c.loop-signal.gates c.equal.new.self c.hold.new.gates c.args.held.now c.loop-signal.held c.hold.new.self (f signal)
          (map f (range_with_len (signal + 1) (signals - (signal + 1)))) (shift_terms signals base next) stays before builds held;
    }
