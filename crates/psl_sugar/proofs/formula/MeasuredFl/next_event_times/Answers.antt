-- An occurrence that is too large before the others is too large before all.
use Rattle.std.proofs.Common.{arith}
use Rattle.std.proofs.lemmas.Grind.{common_steps}
use Rattle.psl_sugar.specs.Properties.{next, next_event_times}
use Rattle.psl_sugar.proofs.Sizes.{next_event_holds, next_event_size, next_event_within, next_event_end}
use Rattle.psl_sugar.proofs.formula.MeasuredFl.next_event_times.Goals as goal

pub returns-in_err-all : goal.returns-in_err-all
returns-in_err-all c =
    let fits = next_event_holds c.args.strength c.args.test c.args.count c.args.self in
    grind (arith, common_steps)

pub returns-in_err-later : goal.returns-in_err-later
returns-in_err-later c =
    let later = next_event_size c.args.strength c.args.test (next c.args.strength (next_event_times c.args.strength c.args.test c.loop-done.done c.args.self)) in
    let fits = next_event_within c.args.strength c.args.test c.loop-done.done c.args.count c.args.self (omega arith) (omega arith) in
    grind (arith, common_steps)

pub returns-in_err-all-2 : goal.returns-in_err-all-2
returns-in_err-all-2 c =
    let fits = next_event_within c.args.strength c.args.test c.loop-done.done c.args.count c.args.self (omega arith) (omega arith) in
    grind (arith, common_steps)

pub returns : goal.returns
returns c =
    let end = next_event_end c.args.strength c.args.test c.args.count c.loop-done.done c.args.self (omega arith) (omega arith) (omega arith) in
    grind (arith, common_steps)
