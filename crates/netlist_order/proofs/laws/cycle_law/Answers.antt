use Rattle.netlist_order.proofs.Cycles.{cycle-some, cycle-one}
use Rattle.netlist_order.proofs.laws.cycle_law.Goals as goal

pub returns-clause-some : goal.returns-clause-some
returns-clause-some c = λ graph. cycle-some graph

pub returns-clause-one : goal.returns-clause-one
returns-clause-one c = λ graph table other one two. cycle-one graph table other one two

pub returns-clause-both : goal.returns-clause-both
returns-clause-both c = λ graph table acyclic first. acyclic table first.itself
