use Rattle.std.proofs.Common.{◌≤◌, arith, refl}
use Rattle.std.proofs.lemmas.Result.{err_from_is_err_and}
use Rattle.cert_theory.specs.declared.certificate.Certificate.{Certificate}
use Rattle.cert_theory.specs.declared.certificate.InductiveCert.{InductiveCert}
use Rattle.findings.proofs.Certified.{passed-for}
use Rattle.findings.proofs.Clausal.{passed-reach}
use Rattle.findings.proofs.Recordable.{recordable}
use Rattle.findings.proofs.Telling.{entry-fault}
use Rattle.findings.proofs.proving.entry_of.Goals as goal
use Rattle.findings.specs.Recordings.{wanted_of}

pub recorded_of-requires : goal.recorded_of-requires
recorded_of-requires g c =
    recordable c.args.task (wanted_of c.args.recordings) c.in_ok-finding.finding c.requires.provable c.requires.depth c.requires.traceable c.in_ok-finding.ensures.finding

pub returns-clause-entry : goal.returns-clause-entry
returns-clause-entry g c =
    let few : c.args.task.directive.now.number ≤ 4294967295 = omega (arith, c.number_of.ensures.is, c.number_of.ensures.few) in
    record {
      kind = refl;
      number = c.number_of.ensures.is;
      label = c.in_ok-copy_of.ensures;
      finding = c.in_ok-finding.ensures.finding;
      recorded = c.in_ok-recorded.ensures;
      passed = λ (certificate : Certificate) same. rw c.number_of.ensures.is
          (passed-for c.args.task c.requires.provable c.requires.asked c.requires.depth few c.in_ok-finding.finding c.in_ok-finding.ensures.finding certificate same);
      passed_reach = λ (certificate : InductiveCert) same. rw c.number_of.ensures.is
          (passed-reach c.args.task c.requires.provable c.requires.asked few c.in_ok-finding.finding c.in_ok-finding.ensures.finding certificate same);
    }

pub returns-in_err-finding-clause-fault : goal.returns-in_err-finding-clause-fault
returns-in_err-finding-clause-fault g c =
    let p = err_from_is_err_and c.from_residual.result c.from_residual.ensures.1 in
    rw (p.1, p.2) (entry-fault c.args.task (g.W.Wording.line c.args.wording.now) (g.E.Sink.state c.args.err.now) (g.E.Sink.state c.prove_aloud.new.err) _
    c.in_err-finding.ensures.fault)
