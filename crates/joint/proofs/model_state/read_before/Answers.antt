use Rattle.std.proofs.Common.{◌∙◌, ap, Some}
use Rattle.joint.proofs.States.{before-some, before-none}
use Rattle.joint.proofs.model_state.read_before.Goals as goal

pub returns-in_ok-read_bits : goal.returns-in_ok-read_bits
returns-in_ok-read_bits c = ap Some c.in_ok-read_bits.ensures ∙ before-some c.args.values.now c.args.base c.args.signals c.if-values-base.true

pub returns-else-values-base : goal.returns-else-values-base
returns-else-values-base c = before-none c.args.values.now c.args.base c.args.signals c.if-values-base.false
