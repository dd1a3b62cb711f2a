-- What a solver keeps of its fields, and what they stand for.
use Rattle.std.specs.Prelude.{◌≡◌, ◌+◌, ◌≤◌, length, drop, take, IsTrue}
use Rattle.clauses.specs.Literals.{clauses_within}
use Rattle.reach_solver.specs.declared.solver.ReachSolver.TheInside.{Inside}
use Rattle.reach_solver.specs.Solvers.{selected, Selecting}
use Rattle.reach_solver.specs.Texts.{text_of}

abbrev pub selecting_of : Inside → Selecting
selecting_of solver = record {
  variables = solver.variables;
  clauses = solver.growing.clauses;
  chosen = solver.chosen;
}

pub record IsReachSolver (solver : Inside) : Type 0 where
  pub formula : solver.count ≤ length solver.growing.clauses
  pub rest : drop solver.count solver.growing.clauses ≡ selected solver.variables solver.chosen
  pub room : solver.variables + length solver.chosen ≤ solver.growing.variables
  pub within : IsTrue (clauses_within solver.variables solver.chosen)
  pub text : solver.text ≡ text_of (take solver.count solver.growing.clauses)
