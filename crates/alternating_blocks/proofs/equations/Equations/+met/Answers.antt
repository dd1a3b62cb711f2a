use Rattle.alternating_blocks.proofs.Meeting.{all-and, all-or}
use Rattle.alternating_blocks.proofs.equations.Equations.+met.Goals as goal
use Rattle.alternating_theory.specs.Positive.{Holds, Owed}
use Rattle.alternating_blocks.specs.Plan.{combination_of, test_at}

pub returns-in-And : goal.returns-in-And
returns-in-And t c = λ atoms columns tell many.
    rw (c.in-And.is, ← c.deref.ensures, ← c.deref-in-And.ensures)
    (all-and atoms columns c.args.self.now.after.now c.args.words.now (combination_of c.args.self.now.plan.now.tests.items c.deref.result.now) (combination_of c.args.self.now.plan.now.tests.items c.deref-in-And.result.now)
    c.met.result c.met-in-And.result c.and-in-And.result c.and-in-And.ensures (c.met.ensures atoms columns tell many) (c.met-in-And.ensures atoms columns tell many))

pub returns-in-Or : goal.returns-in-Or
returns-in-Or t c = λ atoms columns tell many.
    rw (c.in-Or.is, ← c.deref-in-Or.ensures, ← c.deref-in-Or-2.ensures)
    (all-or atoms columns c.args.self.now.after.now c.args.words.now (combination_of c.args.self.now.plan.now.tests.items c.deref-in-Or.result.now) (combination_of c.args.self.now.plan.now.tests.items c.deref-in-Or-2.result.now)
    c.met-in-Or.result c.met-in-Or-2.result c.or-in-Or.result c.or-in-Or.ensures (c.met-in-Or.ensures atoms columns tell many) (c.met-in-Or-2.ensures atoms columns tell many))

pub returns-in-Both : goal.returns-in-Both
returns-in-Both t c = λ atoms columns tell many.
    rw c.in-Both.is
    (all-and atoms columns c.args.self.now.after.now c.args.words.now (Holds (test_at c.args.self.now.plan.now.tests.items c.in-Both.test)) (Owed c.in-Both.number)
    c.held-in-Both.result c.owed-in-Both.result c.and.result c.and.ensures (c.held-in-Both.ensures atoms columns tell many) (c.owed-in-Both.ensures atoms columns tell many))

pub returns-in-Either : goal.returns-in-Either
returns-in-Either t c = λ atoms columns tell many.
    rw c.in-Either.is
    (all-or atoms columns c.args.self.now.after.now c.args.words.now (Holds (test_at c.args.self.now.plan.now.tests.items c.in-Either.test)) (Owed c.in-Either.number)
    c.held-in-Either.result c.owed-in-Either.result c.or.result c.or.ensures (c.held-in-Either.ensures atoms columns tell many) (c.owed-in-Either.ensures atoms columns tell many))
