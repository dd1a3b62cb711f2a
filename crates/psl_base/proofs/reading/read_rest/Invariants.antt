use Rattle.std.proofs.Common.{◌≡◌, ◌≤◌, ◌-◌, length}
use Rattle.psl_base.specs.Shelf.{Takes}
use Rattle.psl_base.proofs.reading.read_rest.Given as goal

abbrev pub invariant-loop-bytes : goal.invariant-loop-bytes
invariant-loop-bytes g l = record {
  taken : Takes l.bytes.items (g.S.Shelf.state l.initial.shelf) (g.S.Shelf.state l.shelf);
  within : length l.bytes.items ≤ l.limit;
  still : (g.S.Shelf.state l.shelf).read_faults ≡ (g.S.Shelf.state l.initial.shelf).read_faults;
}

abbrev pub decreases-loop-bytes : goal.decreases-loop-bytes
decreases-loop-bytes g l = l.limit - length l.bytes.items
