use Rattle.std.proofs.Common.{◌-◌, ap, sym, subst, Option, length}
use Rattle.std.specs.Prelude.{IfSome}
use Rattle.joint_theory.specs.declared.path.JointPath.{JointPath}
use Rattle.prover_open.specs.Standing.{StandAlong}
use Rattle.prover_open.proofs.Neighbours.{along-open}
use Rattle.prover_open.proofs.building.open_path.Goals as goal

pub joint_path-requires-clause-owed_many : goal.joint_path-requires-clause-owed_many
joint_path-requires-clause-owed_many c = c.fit.ensures.many c.if-not-fit.false

pub joint_path-requires-clause-owed_long : goal.joint_path-requires-clause-owed_long
joint_path-requires-clause-owed_long c = c.fit.ensures.long c.if-not-fit.false

pub joint_path-requires-clause-pending_many : goal.joint_path-requires-clause-pending_many
joint_path-requires-clause-pending_many c = c.fit-2.ensures.many c.if-not-fit-2.false

pub joint_path-requires-clause-pending_long : goal.joint_path-requires-clause-pending_long
joint_path-requires-clause-pending_long c = c.fit-2.ensures.long c.if-not-fit-2.false

pub returns-then-ends_badly : goal.returns-then-ends_badly
returns-then-ends_badly c =
    let d = c.args.netlist.now in
    let a = c.args.automaton.now in
    let path = c.in_ok-path.path in
    along-open d a path c.in_ok-path.ensures.path (length c.args.choices.now.inputs - 1) c.in-Some.joint
    (subst (λ (o : Option JointPath). IfSome o (λ joint. StandAlong d a path (length path) joint.states)) c.in-Some.is c.in_ok-joint.ensures)
    (ap (λ n. n - 1) (sym c.in_ok-path.ensures.size)) (c.ends_badly.ensures c.if-ends_badly.true)
