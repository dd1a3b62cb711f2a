use Rattle.psl_tree.specs.Trees.{formula_of}
use Rattle.wave_judge.proofs.Tested.{tested}
use Rattle.wave_judge.proofs.packing.tested_atoms.Goals as goal

pub returns : goal.returns
returns c = tested (formula_of c.args.formula.now) c.new-atoms.result c.add_of_formula.new.atoms c.new-atoms.ensures c.in_ok-add_of_formula.ensures
