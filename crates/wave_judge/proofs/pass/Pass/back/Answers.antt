use Rattle.std.proofs.Common.{◌≡◌, ℕ, ◌+◌, ◌-◌, ◌*◌, length, refl, sym, ap, ◌∙◌, subst, arith, length-append, length-drop}
use Rattle.std.proofs.Math.ListN.{length-take}
use Rattle.alternating_theory.specs.Obligations.{Automaton}
use Rattle.alternating_blocks.specs.Values.{HasLengths, StepsBlock}
use Rattle.alternating_blocks.specs.declared.values.Values.{Values}
use Rattle.wave_judge.proofs.Samples.{goes_block, have-lengths-at}
use Rattle.wave_judge.proofs.pass.Pass.back.Goals as goal
use Rattle.wave_judge.specs.Values.{AreValuesAt}

pub loop-number-preserved : goal.loop-number-preserved
loop-number-preserved c =
    let automaton = c.args.self.now.automaton.now in
    let recording = c.args.self.now.recording.now in
    let count = c.args.from.count in
    let after : c.loop-number.number ≡ c.loop-number.number - 1 + 1 = omega arith in
    record {
      above = omega arith;
      here = goes_block automaton c.args.self.now.atoms.now recording count (c.loop-number.number - 1) c.loop-number.number c.pack_block.new.columns c.swap.new.y c.step_back.new.into
          after c.requires.tested (subst (λ (v : Values). AreValuesAt automaton recording count (64 * c.loop-number.number) v) (sym c.swap.ensures.y_after) c.loop-number.invariant.here)
          c.pack_block.ensures
          (subst (λ (a : Automaton). StepsBlock a c.args.self.now.atoms.now c.pack_block.new.columns c.swap.new.y c.step_back.new.into) c.loop-number.invariant.blocks_are c.in_ok-step_back.ensures.steps);
      lengths = subst (λ (v : Values). HasLengths automaton v) (sym c.swap.ensures.y_after) (have-lengths-at automaton recording count (64 * c.loop-number.number) c.loop-number.now c.loop-number.invariant.here);
      blocks_are = c.step_back.ensures.automaton ∙ c.loop-number.invariant.blocks_are;
      columns_len = simp (length-take, length-append, length-drop) (omega (arith, c.pack_block.auto.columns, ap length c.as_mut_slice-packed.ensures.value, c.as_mut_slice-packed.ensures.len, c.loop-number.invariant.columns_len));
      hints_len = simp (length-take, length-append, length-drop) (omega (arith, c.pack_block.auto.hints, ap length c.as_mut_slice.ensures.value, c.as_mut_slice.ensures.len, c.loop-number.invariant.hints_len));
    }

pub returns-clause-stand : goal.returns-clause-stand
returns-clause-stand c =
    let here : c.loop-number.number ≡ c.args.block = omega arith in
    record {
      counts = refl;
      stands = refl;
      values = subst (λ (n : ℕ). AreValuesAt c.args.self.now.automaton.now c.args.self.now.recording.now c.args.from.count (64 * n) c.loop-number.now) here c.loop-number.invariant.here;
    }
