use Rattle.std.proofs.Common.{ap, ◌∙◌, ℕ, ◌+◌, length, sym}
use Rattle.trace.proofs.Sizes.{grown, values-more}
use Rattle.trace.proofs.lengths.values_length.Goals as goal
use Rattle.trace.specs.Codes.{code_of, codes_of}
use Rattle.trace.specs.Lengths.{values_size, within}

pub loop-signal-preserved : goal.loop-signal-preserved
loop-signal-preserved c =
    let signal = c.loop-signal.signal in
    let most = c.args.most in
    grown most (values_size (codes_of signal)) (length (code_of signal) + 2) c.loop-signal.sum c.within.result c.plus-sum.result c.loop-signal.invariant
    (c.within.ensures ∙ ap (λ (n : ℕ). within most (n + 2)) c.code_length.ensures) c.plus-sum.ensures
    ∙ ap (within most) (sym (values-more signal))
