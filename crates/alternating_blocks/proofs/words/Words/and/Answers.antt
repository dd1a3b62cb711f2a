use Rattle.alternating_blocks.proofs.Bits.{bit-and}
use Rattle.alternating_blocks.proofs.words.Words.and.Goals as goal

pub returns : goal.returns
returns c = record {
  weak = λ place. bit-and c.args.self.weak c.args.other.weak place;
  neutral = λ place. bit-and c.args.self.neutral c.args.other.neutral place;
  strong = λ place. bit-and c.args.self.strong c.args.other.strong place;
}
