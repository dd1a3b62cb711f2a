use Rattle.gates_nodes.proofs.Folds.{makes-all, makes-conjoined}
use Rattle.gates_nodes.proofs.Luts.{makes-tabled}
use Rattle.gates_nodes.proofs.Rows.{makes-rows}
use Rattle.gates_nodes.proofs.laws.value_law.Goals as goal

pub returns : goal.returns
returns c = record {
  conjunction = makes-conjoined;
  all = makes-all;
  table = makes-tabled;
  rows = makes-rows;
}
