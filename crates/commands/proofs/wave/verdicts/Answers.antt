use Rattle.commands.proofs.Unknowns.{known-judged, known-refused}
use Rattle.commands.proofs.wave.verdicts.Goals as goal

pub returns-in-Some-clause-reading : goal.returns-in-Some-clause-reading
returns-in-Some-clause-reading c =
    known-refused c.args.unknown c.args.unit.now c.args.name.now c.args.recording.now c.args.directives.now c.in-Some.sample c.unknown_fault.result
    c.in-Some.ensures.first c.unknown_fault.ensures

pub returns-clause-reading : goal.returns-clause-reading
returns-clause-reading c =
    known-judged c.args.unknown c.args.unit.now c.args.name.now c.args.recording.now c.args.directives.now c.judged.result
    c.in_default.ensures.first c.judged.ensures
