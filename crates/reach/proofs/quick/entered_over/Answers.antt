use Rattle.std.proofs.Common.{sym, subst, ◌∙◌, ℤ, List, [], ◌∷◌, ◌++◌, arith}
use Rattle.std.specs.Prelude.{IsTrue}
use Rattle.cdcl_incremental.specs.Questions.{AreTrue}
use Rattle.clauses.specs.Literals.{clause_within}
use Rattle.clauses.specs.Models.{IsModel}
use Rattle.clauses.specs.declared.flat.TheConstants.{MOST_VARIABLES}
use Rattle.gates_theory.proofs.Within.{wider, wider_all}
use Rattle.joint_theory.specs.Bits.{joint_width}
use Rattle.reach_frames.proofs.Negations.{negated_within}
use Rattle.reach_solver.specs.Solvers.{Excludes}
use Rattle.reach.proofs.Plain.{frame-within}
use Rattle.reach.proofs.Slicing.{asked-within, sliced-none, sliced-wide}
use Rattle.reach.proofs.quick.entered_over.Goals as goal

pub negated-requires : goal.negated-requires
negated-requires c =
    let joined = c.args.machine.now.joint.now in
    wider (joint_width joined.design joined.automaton joined.visits) MOST_VARIABLES
    (omega (arith, c.state_bits.ensures.is, c.state_bits.ensures.few)) c.args.entering.cube.now c.requires.cube.within

pub asked_literals-requires-clause-fits : goal.asked_literals-requires-clause-fits
asked_literals-requires-clause-fits c =
    let joined = c.args.machine.now.joint.now in
    omega (
      arith,
      sliced-wide joined c.facts.ensures.netlist c.facts.ensures.automaton c.facts.ensures.tests c.args.sliced.now.slice,
      c.requires.sliced.variables,
      c.args.sliced.now.pair.few,
    )

pub ask-requires-clause-within : goal.ask-requires-clause-within
ask-requires-clause-within c =
    let joined = c.args.machine.now.joint.now in
    let width = joint_width joined.design joined.automaton joined.visits in
    wider_all width c.args.solver.now.variables
    (omega (
      arith,
      sliced-wide joined c.facts.ensures.netlist c.facts.ensures.automaton c.facts.ensures.tests c.args.sliced.now.slice,
      c.requires.sliced.variables,
      c.requires.over.variables_are,
    )) c.args.entering.frame.now
    (frame-within width c.args.entering.frame.now c.requires.frame)

pub ask-requires-clause-also : goal.ask-requires-clause-also
ask-requires-clause-also c =
    let joined = c.args.machine.now.joint.now in
    let width = joint_width joined.design joined.automaton joined.visits in
    subst (λ (l : List ℤ). IsTrue (clause_within c.args.solver.now.variables l)) (sym (c.as_slice.ensures ∙ c.in_ok-outside.ensures))
    (negated_within c.args.solver.now.variables c.args.entering.cube.now
    (wider width c.args.solver.now.variables
    (omega (
      arith,
      sliced-wide joined c.facts.ensures.netlist c.facts.ensures.automaton c.facts.ensures.tests c.args.sliced.now.slice,
      c.requires.sliced.variables,
      c.requires.over.variables_are,
    )) c.args.entering.cube.now c.requires.cube.within))

pub ask-requires-clause-literals : goal.ask-requires-clause-literals
ask-requires-clause-literals c =
    let joined = c.args.machine.now.joint.now in
    subst (λ (l : List ℤ). IsTrue (clause_within c.args.solver.now.variables l)) (sym (c.as_slice-2.ensures ∙ c.in_ok-literals.ensures))
    (asked-within joined c.facts.ensures.netlist c.facts.ensures.automaton c.facts.ensures.tests c.args.solver.now.variables
    (omega (
      arith,
      sliced-wide joined c.facts.ensures.netlist c.facts.ensures.automaton c.facts.ensures.tests c.args.sliced.now.slice,
      c.requires.sliced.variables,
      c.requires.over.variables_are,
    )) c.args.entering.initial c.args.entering.cube.now c.requires.cube.within)

pub returns-in-Refuted : goal.returns-in-Refuted
returns-in-Refuted c =
    let joined = c.args.machine.now.joint.now in
    let width = joint_width joined.design joined.automaton joined.visits in
    let frame = c.args.entering.frame.now in
    let told = subst (Excludes c.args.solver.now (frame ++ c.as_slice.result.now ∷ []) c.as_slice-2.result.now) c.in-Refuted.is
    c.in_ok-told.ensures in
    sliced-none joined c.facts.ensures.netlist c.facts.ensures.automaton c.facts.ensures.tests frame
    (frame-within width frame c.requires.frame) c.args.entering.initial c.args.entering.cube.now c.requires.cube.within
    c.args.sliced.now.slice
    (λ values model met holds. told c.args.sliced.now.pair.variables c.args.sliced.now.pair.clauses c.requires.over values
    (subst (IsModel values) (sym c.requires.sliced.clauses) model)
    (subst (λ (l : List ℤ). IsModel values (frame ++ l ∷ [])) (sym (c.as_slice.ensures ∙ c.in_ok-outside.ensures)) met)
    (subst (AreTrue values) (sym (c.as_slice-2.ensures ∙ c.in_ok-literals.ensures)) holds))
