use Rattle.std.proofs.Common.{◌-◌, length, ap, sym, ◌∙◌, subst, arith}
use Rattle.std.proofs.lemmas.List.{length-replicate}
use Rattle.alternating_blocks.proofs.Stepped.{have-lengths}
use Rattle.alternating_blocks.proofs.Stepping.{no-step, all-step}
use Rattle.alternating_blocks.proofs.step.each_step.Goals as goal
use Rattle.alternating_blocks.specs.Values.{HasLengths, StepsAllTo}
use Rattle.alternating_blocks.specs.declared.values.Values.{Values}

pub loop-place-init : goal.loop-place-init
loop-place-init c = record {
  steps = no-step c.args.automaton.now c.args.letters.now.atoms.now c.args.letters.now.columns.now c.args.values.now;
  lengths = c.requires.lengths;
  next_lengths = have-lengths c.args.automaton.now _ c.in_ok-next.next c.in_ok-next.ensures;
  letter_len = ap length c.in_ok-letter.ensures ∙ length-replicate _ _ ∙ c.len.ensures ∙ sym c.requires.columns;
}

pub loop-place-preserved : goal.loop-place-preserved
loop-place-preserved c = record {
  steps = all-step c.args.automaton.now c.args.letters.now.atoms.now c.args.letters.now.columns.now c.words.result.now c.args.values.now c.swap.new.y c.step_back.new.self
      c.read_letter.new.letter (c.loop-place.place - 1) c.loop-place.place (omega arith) (omega arith) c.requires.columns c.read_letter.ensures.len c.read_letter.ensures.bits c.words.ensures.bits
      (subst (λ (v : Values). StepsAllTo c.loop-place.place c.args.automaton.now c.args.letters.now.atoms.now c.args.letters.now.columns.now c.args.values.now v)
      (sym c.swap.ensures.y_after) c.loop-place.invariant.steps) c.step_back.ensures.steps;
  lengths = c.step_back.ensures.lengths;
  next_lengths = subst (λ (v : Values). HasLengths c.args.automaton.now v) (sym c.swap.ensures.y_after) c.loop-place.invariant.lengths;
  letter_len = c.read_letter.ensures.len;
}

pub returns-clause-steps : goal.returns-clause-steps
returns-clause-steps c =
    subst (λ n. StepsAllTo n c.args.automaton.now c.args.letters.now.atoms.now c.args.letters.now.columns.now c.args.values.now c.loop-place.values) (omega arith) c.loop-place.invariant.steps
