-- What growing clauses keep of their fields, and what they stand for.
use Rattle.cdcl_incremental.specs.declared.growing.Growing.TheInside.{Inside}
use Rattle.cdcl_incremental.specs.Questions.{Formula}
use Rattle.cdcl_incremental.specs.Standing.{formula_of, IsGrown}

abbrev pub formula_in : Inside → Formula
formula_in inner = formula_of inner.solver

abbrev pub IsGrowing : Inside → Type 0
IsGrowing inner = IsGrown inner.solver
