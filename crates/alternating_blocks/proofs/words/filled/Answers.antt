use Rattle.std.proofs.Common.{◌∙◌, sym}
use Rattle.alternating_blocks.proofs.Bits.{bit-all}
use Rattle.alternating_blocks.proofs.words.filled.Goals as goal

pub returns-then-value : goal.returns-then-value
returns-then-value c = λ place h. bit-all place h ∙ sym c.if-value.true
