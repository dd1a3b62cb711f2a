use Rattle.wave_judge.proofs.Settled.{always_satisfied, never_satisfied, one-point, point-whole, stays-against, stays-for}
use Rattle.wave_judge.proofs.laws.settled_stays.Goals as goal
use Rattle.wave_judge.specs.Settled.{IsSettledAgainst, IsSettledFor}

pub returns-clause-stays : goal.returns-clause-stays
returns-clause-stays c = λ formula. (stays-against formula, stays-for formula)

pub returns-clause-never_satisfied : goal.returns-clause-never_satisfied
returns-clause-never_satisfied c = never_satisfied

pub returns-clause-always_satisfied : goal.returns-clause-always_satisfied
returns-clause-always_satisfied c = always_satisfied

pub returns-clause-weak_view : goal.returns-clause-weak_view
returns-clause-weak_view c = λ formula letters count point. point-whole (IsSettledAgainst formula) (stays-against formula) letters count point

pub returns-clause-strong_view : goal.returns-clause-strong_view
returns-clause-strong_view c = λ formula letters count point. point-whole (IsSettledFor formula) (stays-for formula) letters count point

pub returns-clause-one : goal.returns-clause-one
returns-clause-one c = λ formula. (one-point (IsSettledAgainst formula), one-point (IsSettledFor formula))
