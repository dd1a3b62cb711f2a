use Rattle.std.proofs.Common.{ap, ◌∙◌, ℕ, List, length, sym}
use Rattle.trace.proofs.Sizes.{declarations-length, grown}
use Rattle.trace.proofs.lengths.declarations_length.Goals as goal
use Rattle.trace.specs.Lengths.{within}
use Rattle.trace.specs.Trace.{declaration, declaration_of, declarations}

pub loop-signal-preserved : goal.loop-signal-preserved
loop-signal-preserved c =
    let signal = c.loop-signal.signal in
    let most = c.args.most in
    let names = c.args.names.now in
    grown most (length (declarations names signal)) (length (declaration names signal)) c.loop-signal.sum c.declaration_length-more.result c.plus-sum.result c.loop-signal.invariant
    (c.declaration_length-more.ensures ∙ ap (λ (name : List ℕ). within most (length (declaration_of name signal))) c.first_text.ensures) c.plus-sum.ensures
    ∙ ap (within most) (sym (declarations-length names signal))
