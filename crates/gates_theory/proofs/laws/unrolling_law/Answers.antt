use Rattle.gates_theory.proofs.Models.{model-path, path-model}
use Rattle.gates_theory.proofs.Joining.{path-some_model}
use Rattle.gates_theory.proofs.laws.unrolling_law.Goals as goal

pub returns : goal.returns
returns c = record {
  models = λ circuit positions values sound.
      (model-path circuit positions values sound, path-model circuit positions values sound);
  paths = path-some_model;
}
