use Rattle.std.proofs.Common.{[], ◌∷◌, ◌++◌}
use Rattle.reach_solver.specs.Solvers.{AreSelected, Grows}
use Rattle.reach_solver.proofs.solver.ReachSolver.select_all.Given as goal

abbrev pub invariant-loop-back : goal.invariant-loop-back
invariant-loop-back l =
    Grows l.fn.self l.self × AreSelected l.self (l.fn.clauses ++ l.fn.clause ∷ []) l.selectors
