use Rattle.cert_theory.specs.Printed.{inductive_text}
use Rattle.cert_text.proofs.Inducing.{inductive_begins, inductive_passes}
use Rattle.cert_text.proofs.Passing.{passed_none}
use Rattle.cert_text.proofs.laws.inductive_law.Goals as goal

pub returns-clause-passes : goal.returns-clause-passes
returns-clause-passes c = λ asked queries certificate evidence. inductive_passes asked queries certificate evidence

pub returns-clause-refused : goal.returns-clause-refused
returns-clause-refused c = λ asked queries certificate evidence reason number refusal.
    passed_none asked queries (inductive_text certificate) (inductive_passes asked queries certificate evidence) reason number refusal

pub returns-clause-header : goal.returns-clause-header
returns-clause-header c = λ asked queries certificate evidence. inductive_begins asked queries certificate evidence
