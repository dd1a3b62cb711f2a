use Rattle.std.proofs.Common.{rules, ℕ, ◌+◌, ◌-◌, ◌<◌, arith, map, w32}
use mir.Val.{SFits}
use Rattle.std.specs.List.{range_with_len}
use Rattle.std.proofs.lemmas.Int.{to_z-of_z}
use Rattle.std.proofs.lemmas.Result.{err_from_is_err_and}
use Rattle.gates_theory.specs.Terms.{Term}
use Rattle.run_gates.proofs.Terms.{held-hold, held-step, held-term, number-next}
use Rattle.joint.proofs.each.add_each.Goals as goal

pub returns-in_err-asked : goal.returns-in_err-asked
returns-in_err-asked g c =
    let number = c.loop-number.number in
    let count = c.args.count in
    let f : ℕ → Term = g.A.Asking.term c.args.asking.now in
    let below : number < count = omega arith in
    let before = rw (number-next f count number below) at c.loop-number.invariant.so_far in
    let p = err_from_is_err_and c.from_residual.result c.from_residual.ensures.1 in
    rw (p.1, p.2) (held-term c.args.gates.now c.loop-number.gates c.add_asked.new.gates c.args.held.now c.loop-number.held c.loop-number.held (f number)
    (map f (range_with_len (number + 1) (count - (number + 1)))) (map f (range_with_len 0 count)) c.in_err-asked.field-0.0 before c.in_err-asked.ensures)

pub returns-in_err-hold : goal.returns-in_err-hold
returns-in_err-hold g c =
    let number = c.loop-number.number in
    let count = c.args.count in
    let f : ℕ → Term = g.A.Asking.term c.args.asking.now in
    let below : number < count = omega arith in
    let asked = c.in_ok-asked.asked in
    let fits_asked : SFits w32 asked = search rules in
    let before = rw (number-next f count number below) at c.loop-number.invariant.so_far in
    let held = simp to_z-of_z at c.in_err-hold.ensures in
    let p = err_from_is_err_and c.from_residual-in_err-hold.result c.from_residual-in_err-hold.ensures.1 in
    rw (p.1, p.2) (held-hold c.args.gates.now c.loop-number.gates c.add_asked.new.gates c.hold.new.gates c.args.held.now c.loop-number.held c.hold.new.self (f number)
    (map f (range_with_len (number + 1) (count - (number + 1)))) (map f (range_with_len 0 count)) asked c.in_err-hold.field-0.0 before c.in_ok-asked.ensures held)

pub loop-number-preserved : goal.loop-number-preserved
loop-number-preserved g c =
    let number = c.loop-number.number in
    let count = c.args.count in
    let f : ℕ → Term = g.A.Asking.term c.args.asking.now in
    let below : number < count = omega arith in
    let asked = c.in_ok-asked.asked in
    let fits_asked : SFits w32 asked = search rules in
    let before = rw (number-next f count number below) at c.loop-number.invariant.so_far in
    let held = simp to_z-of_z at c.in_ok-hold.ensures in
    record {
      so_far = held-step c.args.gates.now c.loop-number.gates c.add_asked.new.gates c.hold.new.gates c.args.held.now c.loop-number.held c.hold.new.self (f number)
          (map f (range_with_len (number + 1) (count - (number + 1)))) (map f (range_with_len 0 count)) asked before c.in_ok-asked.ensures held;
    }
