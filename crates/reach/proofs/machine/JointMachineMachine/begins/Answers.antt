use Rattle.std.proofs.Common.{refl, sym, subst, ℤ, neg_ℤ, List, arith}
use Rattle.std.specs.Prelude.{Contains}
use Rattle.clauses.specs.declared.flat.TheConstants.{MOST_VARIABLES}
use Rattle.joint_theory.specs.Bits.{joint_width}
use Rattle.reach_frames.specs.Cubes.{IsFrame}
use Rattle.gates_theory.proofs.Within.{wider}
use Rattle.reach.proofs.Asked.{begun-none, begun-some}
use Rattle.reach.proofs.NoneApart.{none-apart}
use Rattle.reach.proofs.Plain.{one-frame}
use Rattle.reach.proofs.machine.JointMachineMachine.begins.Goals as goal

pub returns-then-are_apart-clause-none : goal.returns-then-are_apart-clause-none
returns-then-are_apart-clause-none c =
    let joined = c.args.self.now.joint.now in
    let found = c.if-are_apart.ensures refl in
    none-apart joined c.args.self.now.known c.args.self.now.known_are
    (joint_width joined.design joined.automaton joined.visits) c.args.cube.now found.0 c.requires.within found.1
    (subst (λ (l : List ℤ). Contains l (neg_ℤ found.0)) c.as_slice.ensures found.2)

pub one_clause-requires : goal.one_clause-requires
one_clause-requires c =
    let joined = c.args.self.now.joint.now in
    wider (joint_width joined.design joined.automaton joined.visits) MOST_VARIABLES (omega (arith, c.state_bits-width.ensures.is, c.state_bits-width.ensures.few)) c.args.cube.now c.requires.within

pub ask-requires : goal.ask-requires
ask-requires c =
    let joined = c.args.self.now.joint.now in
    let width = joint_width joined.design joined.automaton joined.visits in
    subst (λ (cs : List (List ℤ)). IsFrame width cs) (sym c.in_ok-clauses.ensures) (one-frame width c.args.cube.now c.requires)

pub returns-in-Model-clause-some : goal.returns-in-Model-clause-some
returns-in-Model-clause-some c =
    begun-some c.args.self.now.joint.now c.facts.ensures.netlist c.facts.ensures.automaton c.facts.ensures.tests c.args.self.now.steps
    c.in_ok-values.field-0 c.args.cube.now c.requires c.in_ok-clauses.clauses c.in_ok-clauses.ensures c.in_ok-values.ensures.told
    c.in-Model.values c.in-Model.is c.state_bits-width.result c.state_bits-width.ensures.is c.in_ok-state-in-Model.state c.in_ok-state-in-Model.ensures

pub returns-clause-none : goal.returns-clause-none
returns-clause-none c =
    begun-none c.args.self.now.joint.now c.facts.ensures.netlist c.facts.ensures.automaton c.facts.ensures.tests c.args.self.now.steps
    c.in_ok-values.field-0 c.args.cube.now c.requires c.in_ok-clauses.clauses c.in_ok-clauses.ensures c.in_ok-values.ensures.told
    c.in-Refuted.field-0 c.in-Refuted.field-1 c.in-Refuted.is
