use Rattle.commands.proofs.OneAnswer.{one-first}
use Rattle.commands.proofs.laws.one_refusal.Goals as goal

pub returns : goal.returns
returns c = one-first
