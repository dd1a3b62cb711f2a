use Rattle.std.proofs.Common.{◌≡◌, map, take}
use Rattle.blif_flattening.specs.Listing.{instance_by}
use Rattle.blif_flattening.proofs.listing.listed.Given as goal

abbrev pub invariant-loop-instance : goal.invariant-loop-instance
invariant-loop-instance l = l.found ≡ map (instance_by l.table) (take l.instance-index l.instances)
