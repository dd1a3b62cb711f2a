-- A copy that is too large before the others is too large before all.
use Rattle.std.proofs.Common.{◌+◌, ◌≤◌, arith}
use Rattle.std.proofs.lemmas.Grind.{common_steps}
use Rattle.psl_tree.specs.Counts.{sequence_size}
use Rattle.psl_sugar.specs.Sequences.{times}
use Rattle.psl_sugar.proofs.Sizes.{times_within}
use Rattle.psl_sugar.proofs.sequence.MeasuredSere.times.Goals as goal

pub returns-in_err-all-2 : goal.returns-in_err-all-2
returns-in_err-all-2 c =
    let fits : sequence_size c.args.self + sequence_size (times c.loop-done.done c.args.self) + 1 ≤ sequence_size (times c.args.count c.args.self) =
    times_within c.loop-done.done c.args.count c.args.self (omega arith) (omega arith) in
    grind (arith, common_steps)
