use Rattle.gates_theory.proofs.Chains.{relation-sound}
use Rattle.joint_theory.specs.Relation.{joint}
use Rattle.joint_theory.proofs.Queries.{query-few, query-within, query-words}
use Rattle.joint_theory.proofs.Within.{joint-closed}
use Rattle.joint_theory.proofs.laws.size_law.Goals as goal

pub returns : goal.returns
returns c = record {
  sound = λ design automaton visits sound right tests. relation-sound (joint design automaton visits) (joint-closed design automaton visits sound right tests);
  within = λ design automaton visits window initial sound right tests. query-within design automaton visits window sound right tests initial;
  words = λ design automaton visits window initial sound right tests few. query-words design automaton visits window sound right tests few initial;
  variables = λ design automaton visits window initial sound right tests few. query-few design automaton visits window sound right tests few initial;
}
