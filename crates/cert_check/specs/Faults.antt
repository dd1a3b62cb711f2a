-- What is told where a formula of clauses is refused.
use Rattle.clauses.specs.declared.flat.CnfFault.{CnfFault}
use Rattle.clauses.specs.declared.flat.CnfFault.TheVariants as formulas
use Rattle.psl_tree.specs.declared.limit.Limit.TheVariants as limits
use Rattle.psl_tree.specs.declared.limit.LimitFault.{LimitFault}
use Rattle.psl_tree.specs.declared.limit.LimitFault.TheVariants.{TooLarge, NoMemory}

abbrev pub of_formula : CnfFault → LimitFault
of_formula formulas.TooLarge = TooLarge limits.Formula
of_formula formulas.NoMemory = NoMemory
