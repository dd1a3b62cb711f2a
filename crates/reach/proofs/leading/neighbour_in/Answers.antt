use Rattle.std.proofs.Common.{subst, Bool as Truth, false, List, arith}
use Rattle.std.specs.Prelude.{IfSome, IsTrue, Option}
use Rattle.std.proofs.lemmas.Grind.{common_steps}
use Rattle.clauses.specs.Literals.{clause_within}
use Rattle.reach.specs.Questions.{IsTold}
use Rattle.reach.specs.declared.asking.Told.TheVariants.{Model}
use Rattle.reach_frames.specs.declared.stop.ReachQuery.TheVariants.{Relative}
use Rattle.reach.proofs.Neighbours.{next-of}
use Rattle.reach.proofs.leading.neighbour_in.Goals as goal

pub returns-then-are_same : goal.returns-then-are_same
returns-then-are_same c =
    let joined = c.args.joint.now in
    let also : IsTrue (clause_within c.state_bits-width.result c.args.cube.now) = grind (arith, common_steps, c.are_within.ensures, c.if-not-are_within.false) in
    let told : IsTold joined c.args.steps (Relative c.in_ok-frame.frame false c.args.cube.now) (Model c.in-Some.values) =
    subst (λ (o : Option (List Truth)). IfSome o (λ values. IsTold joined c.args.steps (Relative c.in_ok-frame.frame false c.args.cube.now) (Model values)))
    c.in-Some.is c.in_ok-model_of.ensures in
    next-of joined c.facts.ensures.netlist c.facts.ensures.automaton c.facts.ensures.tests c.args.steps c.in_ok-frame.frame c.args.cube.now
    c.in-Some.values c.state_bits-width.result c.state_bits-width.ensures.is c.in_ok-frame.ensures also told c.in_ok-before.before c.in_ok-next.next
    c.args.state.now c.in_ok-before.ensures c.in_ok-next.ensures (c.are_same.ensures c.if-are_same.true)
