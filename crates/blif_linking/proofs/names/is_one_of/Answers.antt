use Rattle.blif_linking.proofs.Sets.{one-of-some}
use Rattle.blif_linking.proofs.names.is_one_of.Goals as goal

pub returns : goal.returns
returns c = one-of-some c.args.names.now c.args.name.now c.find.result c.is_some.result c.find.ensures.is c.is_some.ensures
