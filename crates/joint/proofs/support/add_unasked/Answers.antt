use Rattle.std.proofs.Common.{rules, ◌<◌, Ok, arith, get_or, length, w32}
use mir.Val.{SFits}
use Rattle.std.proofs.lemmas.Int.{to_z-of_z}
use Rattle.std.proofs.lemmas.Result.{err_from_is_err_and}
use Rattle.gates_theory.specs.Terms.Term.{Literal}
use Rattle.joint.specs.Guards.{asker_bit}
use Rattle.joint.proofs.Chains.{asker-builds, asker-fails}
use Rattle.joint_theory.proofs.Steps.{atoms-at}
use Rattle.joint.proofs.support.add_unasked.Goals as goal

pub add_unless_asked-requires-clause-delta : goal.add_unless_asked-requires-clause-delta
add_unless_asked-requires-clause-delta c =
    let product = c.args.product in
    rw (c.delta-delta.ensures.shown)
    (atoms-at (λ atom. atom.signal < product.netlist.now.signals) product.violation.now.obligations (get_or c.args.askers.now c.loop-i.i 0) c.requires.atoms)

pub returns-in_err-all : goal.returns-in_err-all
returns-in_err-all c =
    let product = c.args.product in
    let design = product.netlist.now in
    let automaton = product.violation.now in
    let below : c.loop-i.i < length c.args.askers.now = omega arith in
    let fits_first : SFits w32 c.args.first = search rules in
    let fits_all : SFits w32 c.loop-i.all = search rules in
    let fits_asker : SFits w32 c.asker_of-asker.result = search rules in
    let p = err_from_is_err_and c.from_residual.result c.from_residual.ensures.1 in
    let before = rw c.loop-i.all-is at (simp to_z-of_z at c.loop-i.invariant.so_far) in
    let one = rw (c.loop-i.all-is, c.asker_of-asker.ensures.is, c.delta-delta.ensures.shown) at (simp to_z-of_z at c.in_err-all.ensures) in
    rw (p.1, p.2) (asker-fails design automaton (asker_bit design automaton c.args.pending) c.args.number (Literal c.args.first) c.args.askers.now c.loop-i.i below
    c.args.gates.now c.loop-i.gates c.add_unless_asked.new.gates c.loop-i.all c.in_err-all.field-0.0 before one)

pub loop-i-preserved : goal.loop-i-preserved
loop-i-preserved c =
    let product = c.args.product in
    let design = product.netlist.now in
    let automaton = product.violation.now in
    let below : c.loop-i.i < length c.args.askers.now = omega arith in
    let fits_first : SFits w32 c.args.first = search rules in
    let fits_all : SFits w32 c.loop-i.all = search rules in
    let fits_asker : SFits w32 c.asker_of-asker.result = search rules in
    let fits : SFits w32 c.in_ok-all.all = search rules in
    let before = rw c.loop-i.all-is at (simp to_z-of_z at c.loop-i.invariant.so_far) in
    let one = rw (c.loop-i.all-is, c.asker_of-asker.ensures.is, c.delta-delta.ensures.shown) at (simp to_z-of_z at c.in_ok-all.ensures) in
    record {
      so_far = rw (to_z-of_z, to_z-of_z) (asker-builds design automaton (asker_bit design automaton c.args.pending) c.args.number (Literal c.args.first) c.args.askers.now c.loop-i.i below
          c.args.gates.now c.loop-i.gates c.add_unless_asked.new.gates c.loop-i.all (Ok c.in_ok-all.all) before one);
    }
