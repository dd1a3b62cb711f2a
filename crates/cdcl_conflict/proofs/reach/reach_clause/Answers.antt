use Rattle.std.proofs.Common.{ℕ, ◌≡◌, ◌/◌, ◌<◌, ◌≤◌, length, get_or, subst, arith}
use Rattle.cdcl_conflict_theory.specs.Trails.{size_of}
use Rattle.cdcl_conflict.specs.Views.{steps_of}
use Rattle.cdcl_conflict.specs.Standings.{IsReaching}
use Rattle.cdcl_conflict.proofs.Reaching.{reaching_none, reaching_more, readable_place, fresh_few}
use Rattle.cdcl_conflict.proofs.reach.reach_clause.Goals as goal

pub loop-literal-init : goal.loop-literal-init
loop-literal-init c = reaching_none (steps_of c.args.trail.now) c.args.clause.now c.args.end c.args.standings.now c.args.reached.now.items c.requires.listed

pub overflow_add-waiting : goal.overflow_add-waiting
overflow_add-waiting c =
    let steps = steps_of c.args.trail.now in
    let few = fresh_few steps.start c.args.end (get_or c.args.trail.now.places.now (get_or c.args.clause.now c.loop-literal.literal-index 0 / 2) 0) c.in_ok-waiting.field-0
    c.loop-literal.standings c.loop-literal.reached.items c.reach_place.new.standings c.reach_place.new.reached.items c.in_ok-waiting.ensures in
    omega (arith, c.loop-literal.invariant.few)

pub loop-literal-preserved : goal.loop-literal-preserved
loop-literal-preserved c =
    let steps = steps_of c.args.trail.now in
    let places = c.args.trail.now.places.now in
    let index = c.loop-literal.literal-index in
    let literal = get_or c.args.clause.now index 0 in
    let before : index < length c.args.clause.now = omega arith in
    let room : size_of steps ≤ length c.loop-literal.standings = omega (arith, c.loop-literal.auto.standings, c.requires.room) in
    reaching_more steps c.args.clause.now c.args.end index (get_or places (literal / 2) 0) c.in_ok-waiting.field-0 c.loop-literal.waiting
    c.args.standings.now c.args.reached.now.items c.loop-literal.standings c.loop-literal.reached.items c.reach_place.new.standings c.reach_place.new.reached.items
    c.requires.end room before
    (readable_place steps places c.args.end literal c.requires.places c.requires.end (c.requires.readable index 0 before))
    c.loop-literal.invariant
    c.in_ok-waiting.ensures

pub returns : goal.returns
returns c =
    let done : c.loop-literal.literal-index ≡ length c.args.clause.now = omega arith in
    subst (λ (n : ℕ). IsReaching (steps_of c.args.trail.now) c.args.clause.now c.args.end n c.args.standings.now c.args.reached.now.items c.loop-literal.standings c.loop-literal.reached.items c.loop-literal.waiting) done c.loop-literal.invariant
