use Rattle.std.proofs.Common.{◌≡◌, ◌∙◌, subst, sym, ℕ, ◌+◌, Option, None, Some, IfSome, IfNone, arith}
use Rattle.joint.specs.Joined.{Joined}
use Rattle.prover.proofs.Reached.{come-to, have-ended, is-sought, one-end, reached-for}
use Rattle.prover.proofs.context.Prover.reach_on.Goals as goal
use Rattle.prover.specs.Reaching.{HaveCome, IsBegun}
use Rattle.reach.specs.Answers.{IsReached}
use Rattle.reach.specs.declared.answer.Reached.{Reached}

pub loop-visits-init : goal.loop-visits-init
loop-visits-init c = subst (λ (n : ℕ). HaveCome c.args.self.task n c.args.known.ends c.args.known.search) (sym c.len-visits.ensures)
    c.requires.known.come

pub search_of-requires-clause-begun : goal.search_of-requires-clause-begun
search_of-requires-clause-begun c = subst (λ (j : Joined). IfSome c.loop-visits.begun (IsBegun c.args.self.task j))
    (sym (c.requires.known.joints.each c.loop-visits.visits c.at.result.now c.at.ensures)) c.loop-visits.invariant.begun

pub end_of-requires-clause-asked : goal.end_of-requires-clause-asked
end_of-requires-clause-asked c = (is-sought c.args.self.task.options.reach c.args.self.task.options.visits c.loop-visits.visits
    (omega (arith, c.loop-visits-test.true, c.len-visits-end.ensures, c.requires.known.joints.many))).0

pub end_of-requires-clause-few : goal.end_of-requires-clause-few
end_of-requires-clause-few c = (is-sought c.args.self.task.options.reach c.args.self.task.options.visits c.loop-visits.visits
    (omega (arith, c.loop-visits-test.true, c.len-visits-end.ensures, c.requires.known.joints.many))).1

pub end_of-requires-clause-fewer : goal.end_of-requires-clause-fewer
end_of-requires-clause-fewer c = have-ended c.args.self.task c.loop-visits.visits c.loop-visits.ends c.loop-visits.invariant.each_end

pub end_of-requires-clause-reached : goal.end_of-requires-clause-reached
end_of-requires-clause-reached c = reached-for c.args.self.task c.loop-visits.visits c.at.result.now c.in_ok-search.search c.in-Some.reached
    (c.requires.known.joints.each c.loop-visits.visits c.at.result.now c.at.ensures) c.in_ok-search.ensures
    (subst (λ (found : Option Reached). IfSome found (IsReached c.in_ok-search.search.joined c.in_ok-search.search.most c.in_ok-search.search.steps))
    c.in-Some.is c.in_ok-reached.ensures.reached)

pub returns-in-None-clause-reaching : goal.returns-in-None-clause-reaching
returns-in-None-clause-reaching c =
    let same : c.go_on.new.self ≡ c.in_ok-search.search =
    subst (λ (found : Option Reached). IfNone found (c.go_on.new.self ≡ c.in_ok-search.search)) c.in-None.is c.in_ok-reached.ensures.on in
    let begun : IsBegun c.args.self.task c.at.result.now c.go_on.new.self = same ∙ c.in_ok-search.ensures in
    record {
      joints = c.requires.known.joints;
      come = come-to c.args.self.task c.loop-visits.visits c.loop-visits.ends c.loop-visits.begun (Some c.go_on.new.self) c.loop-visits.invariant
          (subst (λ (j : Joined). IsBegun c.args.self.task j c.go_on.new.self)
          (c.requires.known.joints.each c.loop-visits.visits c.at.result.now c.at.ensures) begun);
    }

pub loop-visits-preserved : goal.loop-visits-preserved
loop-visits-preserved c = record {
  few = omega (arith, c.loop-visits-test.true, c.len-visits-end.ensures, c.requires.known.joints.many);
  each_end = one-end c.args.self.task c.loop-visits.visits (c.loop-visits.visits + 1) c.loop-visits.ends c.push.new.self c.in_ok-end_of-in-Some.field-0
      c.loop-visits.invariant.each_end c.in_ok-end_of-in-Some.ensures.end c.in_ok-push-in-Some.ensures.ok (omega arith);
  begun = tt;
}

pub returns-clause-reaching : goal.returns-clause-reaching
returns-clause-reaching c = record {
  joints = c.requires.known.joints;
  come = come-to c.args.self.task c.loop-visits.visits c.loop-visits.ends c.loop-visits.begun None c.loop-visits.invariant tt;
}
