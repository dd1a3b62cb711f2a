use Rattle.std.proofs.Common.{◌∙◌, subst, arith}
use Rattle.std.proofs.Math.ListN.{length-set}
use Rattle.alternating_blocks.proofs.Shown.{words-more}
use Rattle.alternating_blocks.proofs.values.Values.spread.Goals as goal
use Rattle.alternating_blocks.specs.Values.{ShowAt}
use Rattle.alternating_blocks.specs.declared.words.Words.{Words}

pub loop-number-preserved : goal.loop-number-preserved
loop-number-preserved c =
    let written : Words = record { weak = c.filled.result; neutral = c.filled-in-loop-number.result; strong = c.filled-in-loop-number-2.result } in
    record {
      into_len = omega (arith, c.loop-number.invariant.into_len, length-set c.loop-number.into c.loop-number.number written);
      shown = λ place h. words-more place c.loop-number.number c.loop-number.into c.args.self.now written (omega arith) (c.loop-number.invariant.shown place h)
          (c.filled.ensures place h ∙ c.get.ensures)
          (c.filled-in-loop-number.ensures place h ∙ c.get-in-loop-number.ensures)
          (c.filled-in-loop-number-2.ensures place h ∙ c.get-in-loop-number-2.ensures);
    }

pub returns : goal.returns
returns c = λ place h.
    subst (λ n. ShowAt place n c.loop-number.into c.args.self.now) (omega arith) (c.loop-number.invariant.shown place h)
