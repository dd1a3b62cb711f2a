use Rattle.std.proofs.Common.{◌∙◌, ◌+◌, arith, subst, sym, Bool}
use Rattle.prover_held.specs.Judged.{Sweeps}
use Rattle.prover_held.proofs.Narrowing.{sweep-else, sweep-then}
use Rattle.prover_held.proofs.lasting.sweep.Goals as goal
use Rattle.prover_held.proofs.lasting.sweep.Goals.{then-drop_unmet, else-drop_unmet}

pub loop-number-preserved : goal.loop-number-preserved
loop-number-preserved c = elim c.if-drop_unmet.branch [
  | then-drop_unmet w ↦
      subst (λ (t : Bool). Sweeps c.args.netlist.now c.args.automaton.now c.args.path.now (c.loop-number.number + 1) c.args.kept.now c.drop_unmet.new.kept t)
      (sym (w.more-is ∙ w.if-drop_unmet.true))
      (sweep-then c.args.netlist.now c.args.automaton.now c.args.path.now c.requires.sound c.loop-number.number c.args.kept.now c.loop-number.kept c.drop_unmet.new.kept
      c.loop-number.more c.drop_unmet.result (omega (arith, c.loop-number-test.true, c.len-number-end.ensures)) c.requires.long c.loop-number.invariant
      c.drop_unmet.ensures.unmet c.drop_unmet.ensures.kept w.if-drop_unmet.true)
  | else-drop_unmet w ↦
      subst (λ (t : Bool). Sweeps c.args.netlist.now c.args.automaton.now c.args.path.now (c.loop-number.number + 1) c.args.kept.now c.drop_unmet.new.kept t)
      (sym w.more-is)
      (sweep-else c.args.netlist.now c.args.automaton.now c.args.path.now c.requires.sound c.loop-number.number c.args.kept.now c.loop-number.kept c.drop_unmet.new.kept
      c.loop-number.more c.drop_unmet.result (omega (arith, c.loop-number-test.true, c.len-number-end.ensures)) c.requires.long c.loop-number.invariant
      c.drop_unmet.ensures.unmet c.drop_unmet.ensures.kept w.if-drop_unmet.false)
]
