use Rattle.std.proofs.Common.{take}
use Rattle.findings.proofs.proving.prove_all.Given as goal
use Rattle.findings.specs.Asked.{asked}
use Rattle.findings.specs.Entries.{AreEntries}
use Rattle.findings.specs.Recordings.{wanted_of}
use Rattle.findings.specs.Telling.{HaveTold}

abbrev pub invariant-loop-directive : goal.invariant-loop-directive
invariant-loop-directive g l = record {
  entries : AreEntries l.fn.netlist l.fn.unit l.fn.options (wanted_of l.fn.recordings) (asked l.fn.covers (take l.directive-index l.directive-items)) l.findings;
  told : HaveTold l.fn.netlist l.fn.unit l.fn.covers (g.W.Wording.line l.fn.wording) (g.E.Sink.state l.initial.err) (g.E.Sink.state l.err);
}
