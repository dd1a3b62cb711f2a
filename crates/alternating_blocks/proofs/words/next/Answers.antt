use Rattle.std.proofs.Common.{arith}
use Rattle.alternating_blocks.proofs.Bits.{bit-next}
use Rattle.alternating_blocks.proofs.words.next.Goals as goal

pub returns : goal.returns
returns c = λ place h. bit-next c.args.word c.args.after place (omega arith) h
