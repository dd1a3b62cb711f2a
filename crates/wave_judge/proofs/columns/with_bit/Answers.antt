use Rattle.std.proofs.Common.{◌∙◌, ap, sym, w64}
use Rattle.std.specs.Prelude.{◌==◌}
use Rattle.std.proofs.lemmas.Nat.Bits.{bit_at_set_same, bit_at_set_other, bit_at_clear_same, bit_at_clear_other}
use Rattle.wave_judge.proofs.columns.with_bit.Goals as goal

pub returns-then-value-clause-written : goal.returns-then-value-clause-written
returns-then-value-clause-written c = ap (λ b. b == 1) (bit_at_set_same w64 c.args.word c.args.place c.requires) ∙ sym c.if-value.true

pub returns-then-value-clause-others : goal.returns-then-value-clause-others
returns-then-value-clause-others c = λ other h d. ap (λ b. b == 1) (bit_at_set_other w64 c.args.word c.args.place c.requires other d)

pub returns-else-value-clause-written : goal.returns-else-value-clause-written
returns-else-value-clause-written c = ap (λ b. b == 1) (bit_at_clear_same w64 c.args.word c.args.place c.requires) ∙ sym c.if-value.false

pub returns-else-value-clause-others : goal.returns-else-value-clause-others
returns-else-value-clause-others c = λ other h d. ap (λ b. b == 1) (bit_at_clear_other w64 c.args.word c.args.place c.requires other h d)
