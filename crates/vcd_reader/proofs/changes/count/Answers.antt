use Rattle.std.proofs.Common.{rules}
use Rattle.std.proofs.lemmas.List.Sorted.{IsPartitionedBy-leb, IsPartitionPoint-from_clause}
use Rattle.std.proofs.Common.{leb}
use Rattle.vcd_reader.proofs.Latest.{counted}
use Rattle.vcd_reader.proofs.changes.count.Goals as goal

pub returns : goal.returns
returns c =
    counted c.args.sample c.partition_point.result c.args.changes.now c.partition_point.ensures.bound
    (IsPartitionPoint-from_clause (λ change. leb change.sample c.args.sample) c.args.changes.now c.partition_point.result c.partition_point.ensures.partitioned
    (IsPartitionedBy-leb (λ change. change.sample) c.args.changes.now c.args.sample c.requires) (λ a r f k. search rules))
