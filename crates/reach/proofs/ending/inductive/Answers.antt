use Rattle.reach.proofs.Inductive.{inductive-of, none-of}
use Rattle.reach.proofs.Plain.{frame-within, invariant-kept}
use Rattle.joint_theory.specs.Bits.{joint_width}
use Rattle.reach.proofs.ending.inductive.Goals as goal

pub refuted-requires-clause-plain : goal.refuted-requires-clause-plain
refuted-requires-clause-plain c = c.requires.framed

pub refuted-requires-2-clause-plain : goal.refuted-requires-2-clause-plain
refuted-requires-2-clause-plain c = invariant-kept c.args.machine.now.joint.now c.args.clauses c.requires

pub refuted-requires-3-clause-plain : goal.refuted-requires-3-clause-plain
refuted-requires-3-clause-plain c = invariant-kept c.args.machine.now.joint.now c.args.clauses c.requires

pub refuted-requires-clause-none : goal.refuted-requires-clause-none
refuted-requires-clause-none c =
    (none-of c.args.machine.now.joint.now c.args.clauses c.facts.ensures.netlist c.facts.ensures.automaton c.facts.ensures.tests c.requires).initial

pub refuted-requires-2-clause-none : goal.refuted-requires-2-clause-none
refuted-requires-2-clause-none c =
    (none-of c.args.machine.now.joint.now c.args.clauses c.facts.ensures.netlist c.facts.ensures.automaton c.facts.ensures.tests c.requires).step

pub refuted-requires-3-clause-none : goal.refuted-requires-3-clause-none
refuted-requires-3-clause-none c =
    (none-of c.args.machine.now.joint.now c.args.clauses c.facts.ensures.netlist c.facts.ensures.automaton c.facts.ensures.tests c.requires).bad

pub returns-clause-reached : goal.returns-clause-reached
returns-clause-reached c = λ frames. record {
  inductive = inductive-of c.args.machine.now.joint.now c.args.clauses c.requires;
  within = frame-within
      (joint_width c.args.machine.now.joint.now.design c.args.machine.now.joint.now.automaton c.args.machine.now.joint.now.visits)
      c.args.clauses c.requires.framed;
  initial = c.in_ok-initial.ensures.refuted;
  step = c.in_ok-step.ensures.refuted;
  bad = c.in_ok-bad.ensures.refuted;
}
