use Rattle.joint_theory.proofs.Queries.{model-path, query-models, refuted}
use Rattle.joint_theory.proofs.laws.query_law.Goals as goal

pub returns : goal.returns
returns c = record {
  models = λ design automaton visits window initial sound right tests. query-models design automaton visits window sound right tests initial;
  paths = λ design automaton visits window initial values sound right tests. model-path design automaton visits window sound right tests initial values;
  refuted = refuted;
}
