use Rattle.std.proofs.Common.{subst, sym, None}
use Rattle.alternating.specs.Limits.{HasLargeSequence}
use Rattle.netlist.proofs.Walking.{run-made}
use Rattle.owed.proofs.Answering.{owed-clockless}
use Rattle.prover.proofs.Evidence.{are-sized, plain-violates}
use Rattle.prover.proofs.Small.{small-sequences}
use Rattle.prover.proofs.context.Prover.judged.Goals as goal
use Rattle.psl_tree.specs.Satisfaction.{Sat}
use Rattle.psl_tree.specs.Trace.{trace_of}
use Rattle.psl_tree.specs.Trees.{Formula, formula_of}
use Rattle.psl_tree.specs.declared.letter.Word.{Word}

pub word_of-requires-clause-stem : goal.word_of-requires-clause-stem
word_of-requires-clause-stem c = are-sized c.args.self.task.netlist.now c.args.run.stem
    (run-made c.args.self.task.netlist.now c.args.run c.requires.violates.is).stem

pub word_of-requires-clause-looped : goal.word_of-requires-clause-looped
word_of-requires-clause-looped c = are-sized c.args.self.task.netlist.now c.args.run.loop_part
    (run-made c.args.self.task.netlist.now c.args.run c.requires.violates.is).looped

pub satisfies-requires-clause-plain : goal.satisfies-requires-clause-plain
satisfies-requires-clause-plain c = owed-clockless (formula_of c.args.self.claim.now.owed) c.args.self.task.unit.now c.args.self.task.directive.now c.requires.ready.claim.owed

pub satisfies-requires-clause-sequences : goal.satisfies-requires-clause-sequences
satisfies-requires-clause-sequences c = small-sequences (formula_of c.args.self.claim.now.owed)
    (subst (λ (f : Formula). HasLargeSequence f → ⊥) (sym c.requires.ready.claim.owed) c.requires.ready.provable.sized.sequences)

pub unreachable-requires : goal.unreachable-requires
unreachable-requires c = plain-violates c.args.self.task.netlist.now c.args.self.task.unit.now c.args.self.task.directive.now c.args.run
    (formula_of c.args.self.claim.now.owed) c.requires.ready.claim.owed c.requires.violates
    (subst (λ (w : Word). Sat (trace_of w) (formula_of c.args.self.claim.now.owed) None) c.in_ok-word.ensures
    (c.in_ok-satisfies.ensures.0 c.if-branch.true))
