use Rattle.std.proofs.Common.{◌≡◌, ◌≤◌, drop, length}
use Rattle.blif_flat.specs.Naming.{prefix_of}
use Rattle.blif_flat.proofs.instance_names.prefix_of.Given as goal

abbrev pub invariant-loop-left : goal.invariant-loop-left
invariant-loop-left l = record {
  within : l.left ≤ length l.path;
  is : l.prefix.items ≡ prefix_of (drop l.left l.path);
}

abbrev pub decreases-loop-left : goal.decreases-loop-left
decreases-loop-left l = l.left
