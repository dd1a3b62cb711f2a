use Rattle.std.proofs.Common.{subst, sym, ℕ, ◌+◌, IfSome, arith}
use Rattle.joint.specs.Joined.{Joined}
use Rattle.prover.proofs.Reached.{have-ended, is-sought, one-end}
use Rattle.prover.proofs.context.Prover.reach_out.Goals as goal
use Rattle.prover.specs.Reaching.{AreEndsFor, HaveCome, IsBegun}

pub loop-visits-init : goal.loop-visits-init
loop-visits-init g c = record {
  come = subst (λ (n : ℕ). HaveCome c.args.self.task n c.args.known.ends c.args.known.search) (sym c.len-visits.ensures) c.requires.known.come;
  told = c.requires.told;
}

pub search_of-requires-clause-begun : goal.search_of-requires-clause-begun
search_of-requires-clause-begun g c = subst (λ (j : Joined). IfSome c.loop-visits.begun (IsBegun c.args.self.task j))
    (sym (c.requires.known.joints.each c.loop-visits.visits c.at.result.now c.at.ensures)) c.loop-visits.invariant.come.begun

pub end_search-requires-clause-begun : goal.end_search-requires-clause-begun
end_search-requires-clause-begun g c = subst (λ (j : Joined). IsBegun c.args.self.task j c.in_ok-search.search)
    (c.requires.known.joints.each c.loop-visits.visits c.at.result.now c.at.ensures) c.in_ok-search.ensures

pub end_of-requires-clause-asked : goal.end_of-requires-clause-asked
end_of-requires-clause-asked g c = (is-sought c.args.self.task.options.reach c.args.self.task.options.visits c.loop-visits.visits
    (omega (arith, c.loop-visits-test.true, c.len-visits-end.ensures, c.requires.known.joints.many))).0

pub end_of-requires-clause-few : goal.end_of-requires-clause-few
end_of-requires-clause-few g c = (is-sought c.args.self.task.options.reach c.args.self.task.options.visits c.loop-visits.visits
    (omega (arith, c.loop-visits-test.true, c.len-visits-end.ensures, c.requires.known.joints.many))).1

pub end_of-requires-clause-fewer : goal.end_of-requires-clause-fewer
end_of-requires-clause-fewer g c = have-ended c.args.self.task c.loop-visits.visits c.loop-visits.ends c.loop-visits.invariant.come.each_end

pub loop-visits-preserved : goal.loop-visits-preserved
loop-visits-preserved g c = record {
  come = record {
    few = omega (arith, c.loop-visits-test.true, c.len-visits-end.ensures, c.requires.known.joints.many);
    each_end = one-end c.args.self.task c.loop-visits.visits (c.loop-visits.visits + 1) c.loop-visits.ends c.push.new.self c.in_ok-end_of.field-0
        c.loop-visits.invariant.come.each_end c.in_ok-end_of.ensures.end c.in_ok-push.ensures.ok (omega arith);
    begun = tt;
  };
  told = c.in_ok-reached.ensures.told;
}

pub returns-clause-ends : goal.returns-clause-ends
returns-clause-ends g c = subst (λ (n : ℕ). AreEndsFor c.args.self.task n c.loop-visits.ends)
    (omega (arith, c.loop-visits.invariant.come.few, c.loop-visits-test.false, c.len-visits-end.ensures, c.requires.known.joints.many))
    c.loop-visits.invariant.come.each_end
