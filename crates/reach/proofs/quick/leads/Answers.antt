use Rattle.std.proofs.Common.{sym, subst, ◌∙◌, ℤ, List, arith}
use Rattle.std.specs.Prelude.{IsTrue}
use Rattle.gates_theory.proofs.Within.{wider}
use Rattle.clauses.specs.Literals.{clause_within}
use Rattle.clauses.specs.declared.flat.TheConstants.{MOST_VARIABLES}
use Rattle.joint_theory.proofs.Within.{start-within}
use Rattle.joint_theory.specs.Bits.{joint_width}
use Rattle.reach.proofs.quick.leads.Goals as goal

pub is_in_cube-requires : goal.is_in_cube-requires
is_in_cube-requires c =
    let joined = c.args.machine.now.joint.now in
    wider (joint_width joined.design joined.automaton joined.visits) MOST_VARIABLES
    (omega (arith, c.state_bits.ensures.is, c.state_bits.ensures.few)) c.args.entering.cube.now c.requires.cube.within

pub is_in_cube-requires-then-not-is_in_cube : goal.is_in_cube-requires-then-not-is_in_cube
is_in_cube-requires-then-not-is_in_cube c =
    let joined = c.args.machine.now.joint.now in
    wider (joint_width joined.design joined.automaton joined.visits) MOST_VARIABLES
    (omega (arith, c.state_bits.ensures.is, c.state_bits.ensures.few)) c.args.entering.cube.now c.requires.cube.within

pub is_in_cube-requires-else-not-entering : goal.is_in_cube-requires-else-not-entering
is_in_cube-requires-else-not-entering c =
    let joined = c.args.machine.now.joint.now in
    subst (λ (l : List ℤ). IsTrue (clause_within MOST_VARIABLES l)) (sym (c.as_slice.ensures ∙ c.args.machine.now.start_is))
    (start-within joined.design joined.automaton joined.visits c.facts.ensures.netlist c.facts.ensures.automaton c.facts.ensures.tests
    MOST_VARIABLES (omega (arith, c.state_bits.ensures.is, c.state_bits.ensures.few)))
