use Rattle.std.proofs.Common.{◌≡◌, map, subst, ◌∙◌}
use Rattle.cdcl_trail.specs.Literals.{signed}
use Rattle.cdcl_incremental.specs.Questions.{Formula, IsAsked}
use Rattle.cdcl_incremental.specs.Standing.{formula_of}
use Rattle.cdcl_incremental.proofs.Asking.{formula_same}
use Rattle.cdcl_incremental.proofs.incremental.Incremental.search.Goals as goal

pub returns-in-Some-clause-asked : goal.returns-in-Some-clause-asked
returns-in-Some-clause-asked c =
    let assumed = map signed c.args.assumed.now in
    let keeps = c.in_ok-find.ensures.keeps in
    let before = c.loop-self.invariant.continues in
    let same : formula_of c.find.new.self ≡ formula_of c.args.self.now = formula_same c.args.self.now c.find.new.self (keeps.formula ∙ before.formula) (keeps.variables ∙ before.variables) in
    let P : Formula → Type 0 = λ f. IsAsked f assumed c.in-Some.asked in
    let ends = rw c.in-Some.is at c.in_ok-asked-in-Conflict.ensures.ends in
    subst P same (ends assumed)
