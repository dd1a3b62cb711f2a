use Rattle.std.proofs.Common.{◌∙◌, ap, map}
use Rattle.commands.proofs.Settling.{points-within, are-settled}
use Rattle.commands.proofs.wave.settled.Goals as goal
use Rattle.commands.specs.Settled.{settled_of}

pub settlements-requires : goal.settlements-requires
settlements-requires c = rw c.as_slice.ensures (points-within c.args.recording.now c.args.directives.now c.args.verdicts.now c.in_ok-found.found c.in_ok-found.ensures)

pub returns-clause-settled : goal.returns-clause-settled
returns-clause-settled c = rw c.if-not-points.false (are-settled c.args.recording.now c.args.directives.now c.args.verdicts.now c.in_ok-found.found c.in_ok-settled.settled c.in_ok-found.ensures
    (c.in_ok-settled.ensures ∙ ap (map (settled_of c.args.recording.now)) c.as_slice.ensures))
