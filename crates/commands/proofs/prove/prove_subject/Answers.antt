use Rattle.command_line.specs.Evidences.{evidence_of}
use Rattle.commands.proofs.Traces.{traceable}
use Rattle.commands.proofs.prove.prove_subject.Goals as goal

pub find-requires-clause-traceable : goal.find-requires-clause-traceable
find-requires-clause-traceable g c =
    traceable c.args.subject.now.netlist c.args.subject.now.directives (evidence_of c.args.request.evidence) c.requires.traces c.requires.small c.requires.loops
