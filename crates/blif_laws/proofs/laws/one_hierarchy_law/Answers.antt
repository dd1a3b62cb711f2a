use Rattle.blif_laws.proofs.Hierarchies.{one-hierarchy}
use Rattle.blif_laws.proofs.laws.one_hierarchy_law.Goals as goal

pub returns : goal.returns
returns c text models others texts titles first second = one-hierarchy text models others texts titles first second
