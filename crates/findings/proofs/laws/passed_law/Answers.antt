use Rattle.cert_theory.specs.Printed.{cert_text, inductive_text}
use Rattle.findings.proofs.Certified.{result-passed}
use Rattle.findings.proofs.laws.passed_law.Goals as goal

pub returns : goal.returns
returns c = record {
  passed = λ design unit options wanted directive entry certificate version result is found answer fault.
      result-passed design unit entry.number (cert_text version certificate) (is.passed certificate found version) result answer fault;
  passed_reach = λ design unit options wanted directive entry certificate result is found answer fault.
      result-passed design unit entry.number (inductive_text certificate) (is.passed_reach certificate found) result answer fault;
}
