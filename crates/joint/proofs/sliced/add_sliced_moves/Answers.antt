use Rattle.std.proofs.Common.{◌++◌, [], ◌∷◌, Ok, map}
use Rattle.gates_theory.specs.Terms.Term.{Literal}
use Rattle.joint_theory.specs.Sliced.{kept_by, kept_latches, kept_signals, shift_term}
use Rattle.run_gates.proofs.Terms.{all-then}
use Rattle.run_terms.specs.Moves.{latch_term}
use Rattle.run_terms.specs.Positions.{had}
use Rattle.joint.proofs.sliced.add_sliced_moves.Goals as goal

pub returns : goal.returns
returns c =
    let design = c.args.product.netlist.now in
    let width = c.args.product.width in
    let first = Literal (had width) ∷ [] in
    let shift = map (shift_term design width) (kept_signals design (kept_by c.args.slice.now.before)) in
    let latches = map (latch_term design.signals 0 width) (kept_latches design (kept_by c.args.slice.now.now)) in
    all-then c.args.gates.now c.add_kept_shift.new.gates c.add_kept_latches.new.gates c.args.held.now c.add_kept_shift.new.held c.add_kept_latches.new.held (first ++ shift) latches c.add_kept_latches.result
    (all-then c.args.gates.now c.add_had.new.gates c.add_kept_shift.new.gates c.args.held.now c.add_had.new.held c.add_kept_shift.new.held first shift (Ok tt)
    c.in_ok-add_had.ensures c.in_ok-add_kept_shift.ensures) c.add_kept_latches.ensures
