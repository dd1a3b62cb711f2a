use Rattle.std.proofs.Common.{◌≡◌, ◌+◌, ◌-◌, ◌<◌, length, sym, ap, ◌∙◌, subst, arith, length-append, length-drop}
use Rattle.std.proofs.Math.ListN.{length-take}
use Rattle.std.proofs.lemmas.List.{length-replicate}
use Rattle.alternating_blocks.proofs.Stepped.{have-lengths}
use Rattle.alternating_blocks.specs.declared.values.Values.{Values}
use Rattle.wave_judge.proofs.Samples.{StandsAt, at_the_end, goes_back, are_at}
use Rattle.wave_judge.proofs.pass.Pass.last_samples.Goals as goal

pub loop-sample-init : goal.loop-sample-init
loop-sample-init c = record {
  above = omega arith;
  stands = record {
    values = (at_the_end c.args.self.now.automaton.now c.args.self.now.recording.now c.args.count c.in_ok-now.now c.requires.count c.in_ok-now.ensures).are;
    lengths = have-lengths c.args.self.now.automaton.now _ c.in_ok-next.next c.in_ok-next.ensures;
    letter_len = ap length c.in_ok-letter.ensures ∙ length-replicate _ _ ∙ c.len.ensures;
  };
  hints_len = omega (arith, c.in_ok-hints.ensures.len, c.in_ok-hints.hints.ok.0);
}

pub loop-sample-preserved : goal.loop-sample-preserved
loop-sample-preserved c =
    let after : c.loop-sample.sample ≡ c.loop-sample.sample - 1 + 1 = omega arith in
    let within : c.loop-sample.sample - 1 < c.args.count = omega arith in
    let stands = subst (λ (next : Values). StandsAt c.args.self.now.automaton.now c.args.self.now.atoms.now c.args.self.now.recording.now c.args.count c.loop-sample.sample c.loop-sample.letter c.loop-sample.next next)
    (sym c.swap.ensures.y_after) c.loop-sample.invariant.stands in
    record {
      above = omega arith;
      stands = goes_back c.args.self.now.automaton.now c.args.self.now.atoms.now c.args.self.now.recording.now c.args.count (c.loop-sample.sample - 1) c.loop-sample.sample c.loop-sample.letter c.pack.new.letter c.words.result.now
          c.loop-sample.next c.swap.new.y c.step_back.new.self after c.requires.count within c.requires.tested stands c.pack.ensures c.words.ensures.bits c.step_back.ensures.steps;
      hints_len =
          simp (length-take, length-append, length-drop) (omega (arith, c.pack.auto.hints, ap length c.as_mut_slice.ensures.value, c.as_mut_slice.ensures.len, c.loop-sample.invariant.hints_len));
    }

pub returns : goal.returns
returns c =
    are_at c.args.self.now.automaton.now c.args.self.now.recording.now c.args.count c.loop-sample.sample c.args.from c.loop-sample.now c.requires.count c.loop-sample.invariant.stands.values (omega arith) c.requires.from
