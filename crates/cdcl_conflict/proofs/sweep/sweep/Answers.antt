use Rattle.std.proofs.Common.{◌≡◌, ◌<◌, arith, subst}
use Rattle.cdcl_conflict_theory.specs.Trails.{size_of}
use Rattle.cdcl_conflict.specs.Views.{steps_of}
use Rattle.cdcl_conflict.specs.Standings.{IsSweeping}
use Rattle.cdcl_conflict.proofs.Counting.{waiting_past, waiting_few}
use Rattle.cdcl_conflict.proofs.Sweeping.{IsLast, sweeping_more, swept_from, swept_none}
use Rattle.cdcl_conflict.proofs.sweep.sweep.Goals as goal

pub explain-requires-clause-reasoned : goal.explain-requires-clause-reasoned
explain-requires-clause-reasoned c =
    let steps = steps_of c.args.trail.now in
    let place = c.last_waiting-end.result in
    let sweeping = c.loop-waiting.invariant.sweeping in
    let one = c.last_waiting-end.ensures.one in
    let past = waiting_past c.loop-waiting.standings steps.start place (omega (arith, one, sweeping.counted)) in
    let within : place < size_of steps = omega (arith, c.last_waiting-end.ensures.end, sweeping.order) in
    c.requires.trail.current place past within

pub overflow_add-waiting : goal.overflow_add-waiting
overflow_add-waiting c =
    let steps = steps_of c.args.trail.now in
    let place = c.last_waiting-end.result in
    let sweeping = c.loop-waiting.invariant.sweeping in
    let explaining = c.in_ok-waiting.ensures in
    omega (
      arith,
      explaining.counted,
      waiting_few c.explain.new.standings steps.start place,
      c.last_waiting-end.ensures.one,
      sweeping.counted,
      sweeping.order,
      c.last_waiting-end.ensures.end,
    )

pub loop-waiting-preserved : goal.loop-waiting-preserved
loop-waiting-preserved c =
    let steps = steps_of c.args.trail.now in
    let found = c.last_waiting-end.ensures in
    let place = c.last_waiting-end.result in
    let last : IsLast c.loop-waiting.standings steps.start c.loop-waiting.end place = record { past = found.start; before = found.end; waits = found.waits; last = found.last; one = found.one } in
    let explaining = c.in_ok-waiting.ensures in
    record {
      listed = explaining.listed;
      sweeping = sweeping_more c.args.clauses.now steps c.loop-waiting.standings c.loop-waiting.end c.loop-waiting.waiting place c.in_ok-waiting.field-0
          c.loop-waiting.reached.items c.explain.new.standings c.explain.new.reached.items c.loop-waiting.invariant.sweeping (omega arith) last explaining;
      some = omega arith;
      explored = λ number before. explaining.explored number (c.loop-waiting.invariant.explored number before);
    }

pub returns : goal.returns
returns c =
    let steps = steps_of c.args.trail.now in
    let found = c.last_waiting-top.ensures in
    let place = c.last_waiting-top.result in
    let last : IsLast c.loop-waiting.standings steps.start c.loop-waiting.end place = record { past = found.start; before = found.end; waits = found.waits; last = found.last; one = found.one } in
    let one : c.loop-waiting.waiting ≡ 1 = omega (arith, c.loop-waiting.invariant.some) in
    let sweeping : IsSweeping steps c.loop-waiting.standings c.loop-waiting.end 1 = subst (IsSweeping steps c.loop-waiting.standings c.loop-waiting.end) one c.loop-waiting.invariant.sweeping in
    swept_from c.args.clauses.now steps c.args.waiting c.args.standings.now c.loop-waiting.standings c.loop-waiting.end place c.loop-waiting.reached.items
    c.loop-waiting.invariant.explored c.loop-waiting.invariant.listed sweeping last

pub returns-then-waiting-eq0 : goal.returns-then-waiting-eq0
returns-then-waiting-eq0 c =
    swept_none c.args.clauses.now (steps_of c.args.trail.now) c.args.waiting c.args.standings.now c.args.reached.now.items c.requires.listed c.requires.sweeping c.if-waiting-eq0.true
