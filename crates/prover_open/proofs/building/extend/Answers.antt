use Rattle.std.proofs.Common.{◌∙◌, ◌-◌, ap, subst, Bool, List, Option, arith, length}
use Rattle.std.specs.Prelude.{IfSome}
use Rattle.joint_theory.specs.declared.path.JointState.{JointState}
use Rattle.prover_open.specs.Standing.{Follows}
use Rattle.prover_held.proofs.Paths.{path-signals}
use Rattle.prover_open.proofs.Neighbours.{along-more}
use Rattle.prover_open.proofs.building.extend.Goals as goal

pub next_state-requires-clause-path : goal.next_state-requires-clause-path
next_state-requires-clause-path c = path-signals c.args.reading.netlist.now c.args.reading.path.now c.requires.path

pub next_state-requires-clause-owes : goal.next_state-requires-clause-owes
next_state-requires-clause-owes c = c.requires.along.owe (c.args.place - 1) c.at-now.result.now c.at-now.ensures

pub next_state-requires-clause-owed : goal.next_state-requires-clause-owed
next_state-requires-clause-owed c =
    let low = c.requires.place in
    let many = c.requires.owed_many in
    ap (λ (bits : List Bool). length bits) c.as_slice-owes.ensures ∙ c.requires.owed_long c.args.place c.at.result.now (omega (arith, low, many)) c.at.ensures

pub next_state-requires-clause-pending : goal.next_state-requires-clause-pending
next_state-requires-clause-pending c =
    let low = c.requires.place in
    let many = c.requires.pending_many in
    ap (λ (bits : List Bool). length bits) c.as_slice-waits.ensures ∙ c.requires.pending_long c.args.place c.at-2.result.now (omega (arith, low, many)) c.at-2.ensures

pub returns-in_ok-push-in-Some : goal.returns-in_ok-push-in-Some
returns-in_ok-push-in-Some c = λ _.
    let d = c.args.reading.netlist.now in
    let a = c.args.reading.automaton.now in
    let path = c.args.reading.path.now in
    along-more d a path c.requires.path c.args.place c.args.states.now c.at-now.result.now c.in-Some.next c.push.new.self
    c.requires.along c.requires.later c.requires.place c.at-now.ensures
    (subst (λ (o : Option JointState). IfSome o (Follows d a path (c.args.place - 1) c.at-now.result.now)) c.in-Some.is c.in_ok-next.ensures)
    c.in_ok-push-in-Some.ensures.ok
