use Rattle.std.proofs.Common.{rules, ◌≡◌, suc, ◌+◌, ◌<◌, pos, ◌++◌, length, drop, get_or, add-one, arith, w32}
use mir.Val.{SFits}
use Rattle.std.proofs.lemmas.Int.{to_z-of_z}
use Rattle.gates_theory.specs.Distinct.{difference, differences}
use Rattle.gates_theory.specs.Unrolled.{moved}
use Rattle.gates.proofs.Additions.{Clauses, so_far-step}
use Rattle.gates.proofs.Drops.{differences-drop, within-next}
use Rattle.gates.proofs.states.add_differences.Goals as goal

pub loop-i-preserved : goal.loop-i-preserved
loop-i-preserved c =
    let i = c.loop-i.i in
    let pair = c.args.pair in
    let literals = c.args.literals.now in
    let here = get_or literals i (pos 0) in
    let below : i < length literals = omega arith in
    let fits_here : SFits w32 here = search rules in
    let fits_first : SFits w32 c.moved.result = search rules in
    let fits_second : SFits w32 c.moved-in-loop-i.result = search rules in
    let first : c.moved.result ≡ moved pair.low here = simp to_z-of_z at c.moved.ensures in
    let second : c.moved-in-loop-i.result ≡ moved pair.high here = simp to_z-of_z at c.moved-in-loop-i.ensures in
    let ok = simp to_z-of_z at c.in_ok-add_difference.ensures.ok in
    let part : Clauses = difference (pair.variables + i) (moved pair.low here) (moved pair.high here) in
    let added : c.add_difference.new.clauses ≡ c.loop-i.clauses ++ part = rw (first, second) at ok in
    let left = rw (differences-drop pair.variables pair.low pair.high literals i below) at c.loop-i.invariant.so_far in
    record {
      so_far = rw add-one (so_far-step c.args.clauses.now c.loop-i.clauses c.add_difference.new.clauses part
          (differences (pair.variables + suc i) pair.low pair.high (drop (suc i) literals)) (differences pair.variables pair.low pair.high literals) left added);
      within = rw add-one (within-next c.args.size literals i below c.loop-i.invariant.within);
    }
