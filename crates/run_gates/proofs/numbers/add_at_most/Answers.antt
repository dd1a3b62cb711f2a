use Rattle.std.proofs.Common.{rules, ◌≡◌, ◌<◌, arith, w32}
use mir.Val.{SFits, to_z}
use Rattle.std.proofs.lemmas.Int.{to_z-of_z}
use Rattle.std.proofs.lemmas.Result.{err_from_is_err_and}
use Rattle.run_gates.proofs.Digits.{compared-step, compared-end, compared-err}
use Rattle.run_gates.proofs.numbers.add_at_most.Goals as goal

pub loop-digit-preserved : goal.loop-digit-preserved
loop-digit-preserved c =
    let digit = c.loop-digit.digit in
    let above = to_z w32 c.loop-digit.above-bits in
    let fits_strict : SFits w32 c.args.strict = search rules in
    let fits_output : SFits w32 c.in_ok-above.above = search rules in
    let fits_first : SFits w32 c.following_at.result = search rules in
    let fits_second : SFits w32 c.following_at-in-loop-digit.result = search rules in
    let below : digit < c.args.width = omega arith in
    let builds = rw (c.following_at.ensures.is, c.following_at-in-loop-digit.ensures.is) at (simp to_z-of_z at c.in_ok-above.ensures) in
    let sofar = simp to_z-of_z at c.loop-digit.invariant.so_far in
    let after = compared-step c.args.gates.now c.loop-digit.gates c.add_digit.new.gates c.args.strict above c.in_ok-above.above c.args.first c.args.second c.args.width digit below sofar builds in
    record { so_far = rw (to_z-of_z w32 c.args.strict fits_strict, to_z-of_z w32 c.in_ok-above.above fits_output) after }

pub returns-in_err-above : goal.returns-in_err-above
returns-in_err-above c =
    let digit = c.loop-digit.digit in
    let above = to_z w32 c.loop-digit.above-bits in
    let fits_strict : SFits w32 c.args.strict = search rules in
    let fits_first : SFits w32 c.following_at.result = search rules in
    let fits_second : SFits w32 c.following_at-in-loop-digit.result = search rules in
    let below : digit < c.args.width = omega arith in
    let failed = rw (c.following_at.ensures.is, c.following_at-in-loop-digit.ensures.is) at (simp to_z-of_z at c.in_err-above.ensures) in
    let sofar = simp to_z-of_z at c.loop-digit.invariant.so_far in
    let p = err_from_is_err_and c.from_residual.result c.from_residual.ensures.1 in
    rw (p.1, p.2) (compared-err c.args.gates.now c.loop-digit.gates c.add_digit.new.gates c.args.strict above c.args.first c.args.second c.args.width digit c.in_err-above.field-0.0 below sofar failed)

pub returns : goal.returns
returns c =
    let above = to_z w32 c.loop-digit.above-bits in
    let fits_strict : SFits w32 c.args.strict = search rules in
    let fits_output : SFits w32 c.negated.result = search rules in
    let end : c.loop-digit.digit ≡ c.args.width = omega arith in
    let sofar = rw end at (simp to_z-of_z at c.loop-digit.invariant.so_far) in
    let done = compared-end c.args.gates.now c.loop-digit.gates c.args.strict above c.negated.result c.args.first c.args.second c.args.width sofar c.negated.ensures.is c.negated.ensures.literal in
    rw (to_z-of_z w32 c.negated.result fits_output) done
