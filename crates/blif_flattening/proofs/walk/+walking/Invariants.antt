use Rattle.std.proofs.Common.{◌+◌, ◌-◌, ◌*◌}
use Rattle.blif_flattening.specs.Hierarchy.{expand}
use Rattle.blif_flattening.specs.Listing.{instances_from}
use Rattle.blif_flattening.proofs.Listed.{Listing}
use Rattle.blif_flattening.proofs.Walking.{Walking}
use Rattle.blif_flattening.proofs.walk.+walking.Given as goal

abbrev pub decreases-visit : goal.decreases-visit
decreases-visit g l = 2 * l.inside.levels + 1

abbrev pub decreases-walk : goal.decreases-walk
decreases-walk g l = 2 * l.levels

abbrev pub invariant-walk-loop-item : goal.invariant-walk-loop-item
invariant-walk-loop-item g l = record {
  walking : Walking g.row.L.Denot g.L.Line.mentions l.models l.instance.path (expand l.models (l.levels - 1)) l.model.items l.fn.out l.out l.item l.k;
  listing : Listing g.row.L.Denot g.L.Line.mentions l.models l.instance.path (instances_from l.models (l.levels - 1)) l.model.items l.fn.out.instances l.out l.item l.k;
}
