use Rattle.std.proofs.Common.{sym, ◌∙◌, subst, ℤ, List, [], ◌∷◌, ◌++◌, Option}
use Rattle.std.specs.Prelude.{IsTrue, IfSome}
use Rattle.std.specs.List.{All, Contains}
use Rattle.cdcl_incremental.specs.Questions.{IsAsked, IsCore}
use Rattle.clauses.specs.Literals.{clause_within}
use Rattle.reach_solver.specs.Fields.{selecting_of}
use Rattle.reach_solver.specs.Solvers.{AreSelected, IsOver, Selecting}
use Rattle.reach_solver.proofs.Selectors.{assumed-within, excluded, within-inside}
use Rattle.reach_solver.proofs.solver.ReachSolver.ask_selected.Goals as goal

pub ask-requires : goal.ask-requires
ask-requires c =
    let clauses = c.args.clauses.now ++ c.args.clause.now ∷ [] in
    let selected : AreSelected c.select_all.new.self clauses c.in-Ok-Some.selectors =
    subst (λ (found : Option (List ℤ)). IfSome found (AreSelected c.select_all.new.self clauses)) c.in-Ok-Some.field-0-is
    c.in-Ok-Some.ensures.selected in
    subst (λ (l : List ℤ). IsTrue (clause_within c.self.inside.growing.variables l))
    (sym (c.as_slice.ensures ∙ c.in_ok-append.ensures))
    (assumed-within (selecting_of c.self.inside) c.self.inside.growing.variables c.self.invariant.room clauses
    c.in-Ok-Some.selectors c.args.literals.now
    (subst (λ (s : Selecting). AreSelected s clauses c.in-Ok-Some.selectors) (sym c.self.view_is) selected)
    (within-inside (selecting_of c.self.inside) c.select_all.new.self c.self.view_is c.args.self.now
    c.in-Ok-Some.ensures.grows c.args.literals.now c.requires.literals))

pub returns-in-Refuted : goal.returns-in-Refuted
returns-in-Refuted c = λ variables formula over values model met holds.
    let clauses = c.args.clauses.now ++ c.args.clause.now ∷ [] in
    let solver = selecting_of c.self.inside in
    let selected : AreSelected c.select_all.new.self clauses c.in-Ok-Some.selectors =
    subst (λ (found : Option (List ℤ)). IfSome found (AreSelected c.select_all.new.self clauses)) c.in-Ok-Some.field-0-is
    c.in-Ok-Some.ensures.selected in
    let core : IsCore c.self.inside.growing c.as_slice.result.now c.in-Refuted.core =
    subst (IsAsked c.self.inside.growing c.as_slice.result.now) c.in-Refuted.is c.in_ok-values.ensures.asked in
    excluded solver c.self.invariant.within values clauses c.in-Ok-Some.selectors c.args.literals.now c.in-Refuted.core
    (within-inside solver c.select_all.new.self c.self.view_is c.args.self.now
    c.in-Ok-Some.ensures.grows c.args.literals.now c.requires.literals)
    (subst (λ (s : Selecting). AreSelected s clauses c.in-Ok-Some.selectors) (sym c.self.view_is) selected)
    (subst (λ (l : List ℤ). All (Contains l) c.in-Refuted.core) (c.as_slice.ensures ∙ c.in_ok-append.ensures) core.among)
    core.refutes variables formula
    (subst (λ (s : Selecting). IsOver s variables formula) (sym c.self.view_is)
    (c.in-Ok-Some.ensures.grows.over variables formula over)) model met holds
