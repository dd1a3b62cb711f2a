use Rattle.cdcl.specs.Loading.{IsLoading}
use Rattle.cdcl.proofs.load.load.Given as goal

abbrev pub invariant-loop-place : goal.invariant-loop-place
invariant-loop-place l = IsLoading l.cnf l.place l.propagator
