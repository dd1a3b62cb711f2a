use Rattle.std.proofs.Common.{◌≡◌, take}
use Rattle.cdcl_incremental.specs.Standing.{IsGrown, formula_of}
use Rattle.cdcl_incremental.proofs.growing.Growing.new.Given as goal

abbrev pub invariant-loop-place : goal.invariant-loop-place
invariant-loop-place l = record {
  grown : IsGrown l.solver;
  is : formula_of l.solver ≡ record { variables = l.cnf.variables; clauses = take l.place l.cnf.clauses };
}
