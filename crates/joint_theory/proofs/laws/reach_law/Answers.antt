use Rattle.joint_theory.proofs.ReachModels.{bad-stands, initial-stands, relative-stands, step-stands}
use Rattle.joint_theory.proofs.Refuting.{inductive-models}
use Rattle.joint_theory.proofs.laws.reach_law.Goals as goal

pub returns : goal.returns
returns c = record {
  initial = λ design automaton visits clauses sound right tests within. initial-stands design automaton visits sound right tests clauses within;
  step = λ design automaton visits clauses sound right tests within. step-stands design automaton visits sound right tests clauses within;
  bad = λ design automaton visits clauses sound right tests within. bad-stands design automaton visits sound right tests clauses within;
  relative = λ design automaton visits frame initial cube sound right tests within also. relative-stands design automaton visits sound right tests frame within initial cube also;
  inductive = λ design automaton visits clauses sound right tests within. inductive-models design automaton visits sound right tests clauses within;
}
