use Rattle.gates_nodes.proofs.Evaluations.{evaluated-before, evaluated-is, told-steady}
use Rattle.gates_nodes.proofs.Models.{evaluation-model, model-evaluation}
use Rattle.std.proofs.Common.{suc}
use Rattle.gates_nodes.specs.Nodes.{told}
use Rattle.gates_nodes.proofs.Sizes.{formula-within}
use Rattle.gates_nodes.proofs.laws.model_law.Goals as goal

pub returns : goal.returns
returns c = record {
  models = λ covers given nodes clauses values exact sound model. model-evaluation covers given exact values nodes clauses sound model;
  evaluations = λ covers given source nodes clauses values exact sound is model. evaluation-model covers given exact source values nodes clauses sound is model;
  told = λ covers given nodes bits values sound e. evaluated-is covers (told bits) given values nodes (told-steady bits) sound e;
  within = formula-within;
  given = λ covers given source nodes values variable few. evaluated-before covers source values (suc given) nodes variable few;
}
