use Rattle.gates_theory.proofs.TermValues.{term-built, term-value}
use Rattle.gates_theory.proofs.laws.term_law.Goals as goal

pub returns : goal.returns
returns c = record {
  value = λ values variables gates term within few hold. (term-value values variables gates term within few hold).0;
  size = λ variables gates term within few. (term-built variables gates term within few).length_is;
  within = λ variables gates term within few old.
      ((term-built variables gates term within few).within old, (term-built variables gates term within few).output_within);
}
