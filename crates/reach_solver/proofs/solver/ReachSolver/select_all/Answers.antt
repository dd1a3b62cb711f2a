use Rattle.std.proofs.Common.{sym, subst, ℕ, [], ◌∷◌, ◌++◌}
use Rattle.std.specs.Prelude.{IsTrue}
use Rattle.std.proofs.lemmas.List.Elements.{Contains-append_left, Contains-push}
use Rattle.clauses.specs.Literals.{clause_within}
use Rattle.reach_solver.proofs.Extending.{each-within, contains-at}
use Rattle.reach_solver.proofs.Selectors.{are-more, grows-then}
use Rattle.reach_solver.proofs.solver.ReachSolver.select_all.Goals as goal

pub add_selector-requires : goal.add_selector-requires
add_selector-requires c =
    subst (λ (n : ℕ). IsTrue (clause_within n c.at.result.now)) (sym c.loop-back.invariant.0.variables)
    (each-within c.args.self.now.variables c.args.clauses.now c.at.result.now c.requires.within
    (contains-at c.args.clauses.now _ c.at.result.now c.at.ensures.is))

pub loop-back-preserved : goal.loop-back-preserved
loop-back-preserved c =
    let clauses = c.args.clauses.now in
    let also = c.args.clause.now in
    let grows = c.in_ok-add_selector.ensures.grows in (
      grows-then c.args.self.now c.loop-back.self c.add_selector.new.self c.loop-back.invariant.0 grows,
      are-more c.loop-back.self c.add_selector.new.self grows (clauses ++ also ∷ []) c.at.result.now
          (Contains-append_left clauses (also ∷ []) c.at.result.now (contains-at clauses _ c.at.result.now c.at.ensures.is))
          c.loop-back.selectors c.add_selector.new.selectors c.loop-back.invariant.1
          (c.in_ok-add_selector.ensures.added c.if-not-branch.false),
    )

pub returns-clause-selected : goal.returns-clause-selected
returns-clause-selected c =
    let clauses = c.args.clauses.now in
    let also = c.args.clause.now in
    are-more c.loop-back.self c.add_selector-2.new.self c.in_ok-add_selector-2.ensures.grows (clauses ++ also ∷ []) also
    (Contains-push clauses also) c.loop-back.selectors c.add_selector-2.new.selectors c.loop-back.invariant.1
    (c.in_ok-add_selector-2.ensures.added c.if-not-branch-2.false)
