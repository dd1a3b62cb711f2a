use Rattle.psl_layer_laws.proofs.TreeLaws.{same-tree}
use Rattle.psl_layer_laws.proofs.same_tree.Goals as goal

pub returns : goal.returns
returns c = same-tree
