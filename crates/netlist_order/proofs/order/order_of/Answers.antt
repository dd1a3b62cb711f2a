use Rattle.std.proofs.Common.{◌≢◌, ℕ, ◌<◌, length, sym, subst, arith}
use Rattle.std.proofs.lemmas.Result.{MatchResult-weaker}
use Rattle.netlist_order.specs.declared.search.Visit.TheVariants.{New}
use Rattle.netlist_order.specs.Graph.{IsOrder}
use Rattle.netlist_order.specs.State.{mark_of}
use Rattle.netlist_order.proofs.Ending.{IsOrder-found, IsFirstOnCycle-found}
use Rattle.netlist_order.proofs.order.order_of.Goals as goal
use Rattle.netlist_order.proofs.order.order_of.Goals.{After-into_answer}

-- every table was met
all_met : (c : After-into_answer) → (table : ℕ) → table < length c.args.wiring.now → mark_of c.loop-table.search table ≢ New
all_met c table lt = c.loop-table.invariant.met table (omega arith)

pub returns-clause-order : goal.returns-clause-order
returns-clause-order c =
    MatchResult-weaker c.into_answer.result c.into_answer.ensures.order
    (λ order found. subst (λ o. IsOrder c.args.wiring.now o) (sym found.1)
    (IsOrder-found c.args.wiring.now c.loop-table.search c.loop-table.invariant.sound c.loop-table.invariant.ended (all_met c) found.0))
    (λ table found. tt)

pub returns-clause-cycle : goal.returns-clause-cycle
returns-clause-cycle c =
    MatchResult-weaker c.into_answer.result c.into_answer.ensures.cycle
    (λ order found. tt)
    (λ table found.
    IsFirstOnCycle-found c.args.wiring.now c.loop-table.search c.loop-table.invariant.sound c.loop-table.invariant.ended (all_met c) table found)
