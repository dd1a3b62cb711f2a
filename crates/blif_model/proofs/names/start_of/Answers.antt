use Rattle.std.proofs.Common.{rules}
use Rattle.blif_model.specs.Hashes.{start_of}
use Rattle.blif_model.proofs.names.start_of.Goals as goal

pub returns-clause-is : goal.returns-clause-is
unfolding start_of
returns-clause-is c = search rules
