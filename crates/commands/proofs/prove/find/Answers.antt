use Rattle.std.proofs.Common.{Option, subst, sym}
use Rattle.commands.proofs.prove.find.Goals as goal
use Rattle.commands.specs.Provings.{options_of}
use Rattle.findings.proofs.Shown.{all-shown}
use Rattle.findings.specs.Entries.{AreFindings}
use Rattle.findings.specs.Recordings.{Form, wanted_of}
use Rattle.findings.specs.Traceable.{AreTraceable}

pub prove_all-requires-clause-traceable : goal.prove_all-requires-clause-traceable
prove_all-requires-clause-traceable g c =
    subst (λ (wanted : Option Form). AreTraceable c.args.netlist.now c.args.directives.now wanted) (sym c.recordings_of-recordings.ensures) c.requires.traceable

pub returns-clause-found : goal.returns-clause-found
returns-clause-found g c = record {
  findings =
      subst (λ (wanted : Option Form). AreFindings c.args.netlist.now c.args.directives.now (options_of c.args.request.limits) c.args.request.limits.covers wanted c.in_ok-findings.findings)
      c.recordings_of-recordings.ensures c.in_ok-findings.ensures.findings;
  columns = c.in_ok-columns.ensures;
}

pub returns-clause-shown : goal.returns-clause-shown
returns-clause-shown g c =
    all-shown c.args.netlist.now c.args.directives.now (options_of c.args.request.limits) c.args.request.limits.covers (wanted_of c.recordings_of-recordings.result) c.in_ok-columns.columns
    c.in_ok-findings.findings c.soundness_law.ensures.sound c.in_ok-columns.ensures c.in_ok-findings.ensures.findings
