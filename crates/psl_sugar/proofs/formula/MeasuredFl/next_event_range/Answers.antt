-- A part that is too large makes the whole too large, and each part is joined at the right.
use Rattle.std.proofs.Common.{ℕ, ◌+◌, ◌-◌, arith}
use Rattle.std.proofs.lemmas.Grind.{common_steps}
use Rattle.psl_tree.specs.Trees.{Formula}
use Rattle.psl_sugar.specs.Properties.{next_event_times, joined_parts}
use Rattle.psl_sugar.proofs.Sizes.{joined_holds, joined_size, joined_within, joined_more}
use Rattle.psl_sugar.proofs.formula.MeasuredFl.next_event_range.Goals as goal

pub returns-in_err-all : goal.returns-in_err-all
returns-in_err-all c =
    let part : ℕ → Formula = λ count. next_event_times c.args.strength c.args.test count c.args.self in
    let fits = joined_holds c.args.range.quantifier part c.args.range.low (c.args.range.high - c.args.range.low) in
    grind (arith, common_steps)

pub returns-in_err-part-2 : goal.returns-in_err-part-2
returns-in_err-part-2 c =
    let part : ℕ → Formula = λ count. next_event_times c.args.strength c.args.test count c.args.self in
    let both = joined_size c.args.range.quantifier (joined_parts c.args.range.quantifier part c.args.range.low c.loop-more.more) (part (c.args.range.low + (c.loop-more.more + 1))) in
    let fits = joined_within c.args.range.quantifier part c.args.range.low c.loop-more.more (c.args.range.high - c.args.range.low) (omega arith) in
    grind (arith, common_steps)

pub returns-in_err-all-2 : goal.returns-in_err-all-2
returns-in_err-all-2 c =
    let part : ℕ → Formula = λ count. next_event_times c.args.strength c.args.test count c.args.self in
    let fits = joined_within c.args.range.quantifier part c.args.range.low c.loop-more.more (c.args.range.high - c.args.range.low) (omega arith) in
    grind (arith, common_steps)

pub loop-more-preserved : goal.loop-more-preserved
loop-more-preserved c =
    let part : ℕ → Formula = λ count. next_event_times c.args.strength c.args.test count c.args.self in
    let whole = joined_more c.args.range.quantifier part c.args.range.low c.loop-more.more in
    grind (arith, common_steps)
