use Rattle.std.proofs.Common.{◌∙◌, ap}
use Rattle.psl_base.specs.Tokens.{TokensLeft}
use Rattle.vcd_reader.specs.Running.{defining}
use Rattle.vcd_reader.specs.Standing.{InReference}
use Rattle.vcd_reader.proofs.definitions.joined.Goals as goal

pub returns-then-end-clause-ok : goal.returns-then-end-clause-ok
returns-then-end-clause-ok c = λ d v.
    c.loop-text.invariant.same d v ∙ ap (λ (left : TokensLeft). defining d (InReference v c.loop-text.text.items) left) c.in_ok-token.ensures.ok
