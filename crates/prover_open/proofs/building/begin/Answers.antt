use Rattle.std.proofs.Common.{◌∙◌, ◌++◌, ◌∷◌, [], ap, List, Bool, length, arith}
use Rattle.joint_theory.specs.declared.path.JointState.{JointState}
use Rattle.prover_open.proofs.Neighbours.{along-first}
use Rattle.prover_open.proofs.building.begin.Goals as goal

pub first_state-requires-clause-owed : goal.first_state-requires-clause-owed
first_state-requires-clause-owed c =
    let some = c.requires.path.some in
    let many = c.requires.owed_many in
    ap (λ (bits : List Bool). length bits) c.as_slice-owes.ensures ∙ c.requires.owed_long 0 c.at.result.now (omega (arith, some, many)) c.at.ensures

pub first_state-requires-clause-pending : goal.first_state-requires-clause-pending
first_state-requires-clause-pending c =
    let some = c.requires.path.some in
    let many = c.requires.pending_many in
    ap (λ (bits : List Bool). length bits) c.as_slice-waits.ensures ∙ c.requires.pending_long 0 c.at-2.result.now (omega (arith, some, many)) c.at-2.ensures

pub returns : goal.returns
returns c =
    along-first c.args.reading.netlist.now c.args.reading.automaton.now c.args.reading.path.now c.requires.path c.in_ok-first.first c.push.new.self
    (c.in_ok-push.ensures.ok ∙ ap (λ (list : List JointState). list ++ c.in_ok-first.first ∷ []) c.new-states.ensures)
    c.in_ok-first.ensures.stands c.in_ok-first.ensures.owes
