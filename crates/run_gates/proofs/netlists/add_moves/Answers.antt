use Rattle.std.proofs.Common.{rules, ◌++◌, [], ◌∷◌, map, w32}
use mir.Val.{SFits}
use Rattle.std.proofs.lemmas.Int.{to_z-of_z}
use Rattle.gates_theory.specs.Terms.Term.{Literal}
use Rattle.run_terms.specs.Moves.{latch_term, shift_terms}
use Rattle.run_terms.specs.Positions.{had}
use Rattle.run_gates.proofs.Terms.{all-then, held-literal}
use Rattle.run_gates.proofs.netlists.add_moves.Goals as goal

pub returns : goal.returns
returns c =
    let signals = c.args.position.signals in
    let base = c.args.position.base in
    let next = c.args.next in
    let fits_had : SFits w32 c.had.result = search rules in
    let holds = simp to_z-of_z at c.in_ok-hold.ensures in
    let first = rw c.had.ensures.is at (held-literal c.args.gates.now c.hold.new.gates c.args.held.now c.hold.new.self c.had.result _ c.had.ensures.literal holds) in
    let rest = map (latch_term signals base next) c.args.latches.now in
    all-then c.args.gates.now c.hold.new.gates c.add_latches.new.gates c.args.held.now c.hold.new.self c.add_latches.new.held (Literal (had next) ∷ []) (shift_terms signals base next ++ rest) c.add_latches.result
    first
    (all-then c.hold.new.gates c.add_shift.new.gates c.add_latches.new.gates c.hold.new.self c.add_shift.new.held c.add_latches.new.held (shift_terms signals base next) rest c.add_latches.result
    c.in_ok-add_shift.ensures c.add_latches.ensures)
