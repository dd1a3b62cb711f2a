-- A part that is too large makes the whole too large.
use Rattle.std.proofs.Common.{ℕ, ◌+◌, ◌-◌, arith}
use Rattle.std.proofs.lemmas.Grind.{common_steps}
use Rattle.psl_tree.specs.Trees.{Formula}
use Rattle.psl_sugar.specs.Properties.{next_times, joined_parts}
use Rattle.psl_sugar.proofs.Sizes.{joined_holds, joined_size, joined_within}
use Rattle.psl_sugar.proofs.formula.MeasuredFl.next_range.Goals as goal

pub returns-in_err-all : goal.returns-in_err-all
returns-in_err-all c =
    let part : ℕ → Formula = λ count. next_times c.args.strength count c.args.self in
    let fits = joined_holds c.args.range.quantifier part c.args.range.low (c.args.range.high - c.args.range.low) in
    grind (arith, common_steps)

pub returns-in_err-part-2 : goal.returns-in_err-part-2
returns-in_err-part-2 c =
    let part : ℕ → Formula = λ count. next_times c.args.strength count c.args.self in
    let both = joined_size c.args.range.quantifier (joined_parts c.args.range.quantifier part c.args.range.low c.loop-more.more) (part (c.args.range.low + (c.loop-more.more + 1))) in
    let fits = joined_within c.args.range.quantifier part c.args.range.low c.loop-more.more (c.args.range.high - c.args.range.low) (omega arith) in
    grind (arith, common_steps)

pub returns-in_err-all-2 : goal.returns-in_err-all-2
returns-in_err-all-2 c =
    let part : ℕ → Formula = λ count. next_times c.args.strength count c.args.self in
    let fits = joined_within c.args.range.quantifier part c.args.range.low c.loop-more.more (c.args.range.high - c.args.range.low) (omega arith) in
    grind (arith, common_steps)
