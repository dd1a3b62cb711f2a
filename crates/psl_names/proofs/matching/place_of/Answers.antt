use Rattle.std.proofs.Common.{rules}
use Rattle.std.proofs.lemmas.List.Sorted.{IsPartitionPoint-from_clause}
use Rattle.std.specs.Ordering.{is_lt}
use Rattle.psl_names.specs.Ends.{compare_ends}
use Rattle.psl_names.proofs.Refs.{parted, place-of}
use Rattle.psl_names.proofs.matching.place_of.Goals as goal

pub returns-clause-place : goal.returns-clause-place
returns-clause-place c =
    place-of c.args.sorted.now c.args.text.now c.partition_point.result c.partition_point.ensures.bound
    (IsPartitionPoint-from_clause (λ name. is_lt (compare_ends name.now.text c.args.text.now)) c.args.sorted.now c.partition_point.result c.partition_point.ensures.partitioned
    (parted c.args.sorted.now c.args.text.now c.requires) (λ a r f' k. search rules))
