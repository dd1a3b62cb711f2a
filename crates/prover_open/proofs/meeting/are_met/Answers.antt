use Rattle.std.proofs.Common.{◌∙◌, sym, subst, ℕ, List, arith}
use Rattle.std.specs.Prelude.{All, IsTrue}
use Rattle.std.proofs.lemmas.Bool.{false≢true}
use Rattle.std.proofs.lemmas.List.{take_all}
use Rattle.std.proofs.lemmas.List.Elements.{All-more}
use Rattle.alternating_theory.specs.Positive.{met}
use Rattle.joint_theory.specs.States.{delta_of}
use Rattle.netlist.specs.Valuations.{bit}
use Rattle.prover_held.specs.Lasting.{letter_in}
use Rattle.prover_open.proofs.meeting.are_met.Goals as goal
use Rattle.prover_open.proofs.meeting.are_met.Goals.{then-met, else-met}

pub loop-number-preserved : goal.loop-number-preserved
loop-number-preserved c = λ h. elim c.if-met.branch [
  | then-met w ↦ All-more
      (λ number. IsTrue (met (delta_of c.args.reading.automaton.now number) (letter_in c.args.reading.netlist.now c.args.reading.path.now c.args.place) (bit c.args.next.now)))
      c.args.numbers.now c.loop-number.number-index 0 c.loop-number-test.true (c.loop-number.invariant w.if-met.true)
      (sym w.is_met-met.ensures ∙ sym w.met-is ∙ h)
  | else-met w ↦ absurd (false≢true (sym w.if-met.false ∙ sym w.met-is ∙ h))
]

pub returns : goal.returns
returns c = λ h.
    subst (λ (list : List ℕ). All (λ number. IsTrue (met (delta_of c.args.reading.automaton.now number) (letter_in c.args.reading.netlist.now c.args.reading.path.now c.args.place) (bit c.args.next.now))) list)
    (take_all c.loop-number.number-index c.args.numbers.now (omega (arith, c.loop-number-test.false))) (c.loop-number.invariant h)
