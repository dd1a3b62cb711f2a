use Rattle.std.proofs.Common.{arith}
use Rattle.vcd_reader.proofs.Latest.{counted_there}
use Rattle.vcd_reader.proofs.changes.is_count.Goals as goal

pub returns-then-is_early : goal.returns-then-is_early
returns-then-is_early c =
    λ late. counted_there c.args.sample c.args.count c.args.changes.now c.requires (omega arith) (c.is_early.ensures c.if-is_early.true) (c.is_late.ensures late)
