use Rattle.std.proofs.Common.{sym, ap, ◌∙◌, not}
use Rattle.std.proofs.lemmas.Bool.{true≢false}
use lib.Pointwise.{bytes_decides}
use Rattle.cert_lines.proofs.NumberLines.{front_is}
use Rattle.cert_lines.proofs.numbers.behind.Goals as goal

pub returns-then-ne-clause-none : goal.returns-then-ne-clause-none
returns-then-ne-clause-none c = λ rest is.
    let same = c.split_at.ensures.front ∙ front_is c.args.line.now c.args.word.now rest is in
    true≢false (sym c.if-ne.true ∙ c.ne.ensures ∙ ap not ((bytes_decides c.split_at.result.0.now c.args.word.now).1 same))
