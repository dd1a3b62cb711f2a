use Rattle.std.proofs.Common.{◌≡◌, leb, true, false, arith, rules}
use Rattle.std.specs.List.Sorted.{IsPartitionPoint}
use Rattle.std.proofs.lemmas.Bool.{leb-true, leb-false}
use Rattle.std.proofs.lemmas.List.Sorted.{IsPartitionPoint-from_clause, IsPartitionedBy-leb}
use Rattle.cdcl_conflict.proofs.view.level_of.Goals as goal

parted : (c : goal.After-partition_point) →
    IsPartitionPoint (λ limit. leb limit c.args.place ≡ true) (λ limit. leb limit c.args.place ≡ false) c.args.limits.now c.partition_point.result
parted c =
    IsPartitionPoint-from_clause (λ limit. leb limit c.args.place) c.args.limits.now c.partition_point.result c.partition_point.ensures.partitioned
    (IsPartitionedBy-leb (λ limit. limit) c.args.limits.now c.args.place c.requires)
    (λ a r q k. search rules)

pub returns-clause-at : goal.returns-clause-at
returns-clause-at c = λ level below. leb-true _ _ ((parted c).0 level 0 (omega arith) below)

pub returns-clause-above : goal.returns-clause-above
returns-clause-above c = λ level above within. leb-false _ _ ((parted c).1 level 0 above within)
