use Rattle.alternating.specs.Views.{positive_of}
use Rattle.alternating_blocks.proofs.Planned.{all-same, one-same, both-within}
use Rattle.alternating_blocks.proofs.plan.+planned.Goals as goal
use Rattle.alternating_blocks.specs.Plan.{bare_positive}

pub returns-in_ok-second-in-And-clause-same : goal.returns-in_ok-second-in-And-clause-same
returns-in_ok-second-in-And-clause-same t c =
    rw (c.in-And.is, ← c.deref.ensures, ← c.deref-in-And.ensures)
    (all-same c.planned.new.tests.items c.planned-in-And.new.tests.items c.in_ok-second-in-And.ensures.grown c.args.count c.in_ok-first-in-And.first c.in_ok-second-in-And.second
    c.in_ok-first-in-And.ensures.within c.in_ok-second-in-And.ensures.within c.all_of.result (bare_positive (positive_of c.deref.result.now)) (bare_positive (positive_of c.deref-in-And.result.now))
    c.in_ok-first-in-And.ensures.same c.in_ok-second-in-And.ensures.same c.all_of.ensures.same)

pub returns-in_ok-second-in-And-clause-within : goal.returns-in_ok-second-in-And-clause-within
returns-in_ok-second-in-And-clause-within t c =
    both-within c.planned.new.tests.items c.planned-in-And.new.tests.items c.in_ok-second-in-And.ensures.grown c.args.count c.in_ok-first-in-And.first c.in_ok-second-in-And.second
    c.in_ok-first-in-And.ensures.within c.in_ok-second-in-And.ensures.within c.all_of.result c.all_of.ensures.within

pub returns-in_ok-second-in-Or-clause-same : goal.returns-in_ok-second-in-Or-clause-same
returns-in_ok-second-in-Or-clause-same t c =
    rw (c.in-Or.is, ← c.deref-in-Or.ensures, ← c.deref-in-Or-2.ensures)
    (one-same c.planned-in-Or.new.tests.items c.planned-in-Or-2.new.tests.items c.in_ok-second-in-Or.ensures.grown c.args.count c.in_ok-first-in-Or.first c.in_ok-second-in-Or.second
    c.in_ok-first-in-Or.ensures.within c.in_ok-second-in-Or.ensures.within c.one_of.result (bare_positive (positive_of c.deref-in-Or.result.now)) (bare_positive (positive_of c.deref-in-Or-2.result.now))
    c.in_ok-first-in-Or.ensures.same c.in_ok-second-in-Or.ensures.same c.one_of.ensures.same)

pub returns-in_ok-second-in-Or-clause-within : goal.returns-in_ok-second-in-Or-clause-within
returns-in_ok-second-in-Or-clause-within t c =
    both-within c.planned-in-Or.new.tests.items c.planned-in-Or-2.new.tests.items c.in_ok-second-in-Or.ensures.grown c.args.count c.in_ok-first-in-Or.first c.in_ok-second-in-Or.second
    c.in_ok-first-in-Or.ensures.within c.in_ok-second-in-Or.ensures.within c.one_of.result c.one_of.ensures.within
