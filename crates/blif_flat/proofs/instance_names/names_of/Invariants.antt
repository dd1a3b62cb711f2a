use Rattle.std.proofs.Common.{◌≡◌, take}
use Rattle.blif_flat.specs.Naming.{names_in}
use Rattle.blif_flat.proofs.instance_names.names_of.Given as goal

abbrev pub invariant-loop-instance : goal.invariant-loop-instance
invariant-loop-instance l = l.names ≡ names_in l.texts (take l.instance-index l.instances)
