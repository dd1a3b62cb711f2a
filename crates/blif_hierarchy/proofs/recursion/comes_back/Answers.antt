use Rattle.std.proofs.Common.{rules}
use Rattle.blif_hierarchy.proofs.Back.{acyclic-at}
use Rattle.blif_hierarchy.proofs.recursion.comes_back.Goals as goal

pub returns-in_default : goal.returns-in_default
returns-in_default c = acyclic-at _ _ c.in_default.field-0.items c.args.model (search rules)
