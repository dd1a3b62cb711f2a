use Rattle.cert_theory.specs.Printed.{cert_text, inductive_text}
use Rattle.cert_theory.specs.declared.header.Version.TheVariants.{Two}
use Rattle.commands.proofs.Written.{written-passes}
use Rattle.commands.proofs.laws.written_law.Goals as goal

pub returns : goal.returns
returns c = record {
  passed = λ unit netlist certificate limits wanted files later found place entry evidence result proof here proved units netlists written few check.
      written-passes unit netlist certificate limits wanted files later found place entry (cert_text Two evidence) here
      (λ design directives options recordings directive is. is.passed evidence proved Two) units netlists written few proof result check;
  passed_reach = λ unit netlist certificate limits wanted files later found place entry evidence result proof here proved units netlists written few check.
      written-passes unit netlist certificate limits wanted files later found place entry (inductive_text evidence) here
      (λ design directives options recordings directive is. is.passed_reach evidence proved) units netlists written few proof result check;
}
