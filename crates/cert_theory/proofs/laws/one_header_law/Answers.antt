use Rattle.cert_theory.proofs.ClausesOnce.{one_clauses}
use Rattle.cert_theory.proofs.HeaderLines.{header_once}
use Rattle.cert_theory.proofs.laws.one_header_law.Goals as goal

pub returns : goal.returns
returns c = record {
  header = λ asked text header other one two. header_once asked text header other one two;
  clauses = λ asked queries text header other clauses others one two. one_clauses asked queries text header other clauses others one two;
}
