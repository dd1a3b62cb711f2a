use Rattle.std.proofs.Common.{◌≡◌, [], ◌∷◌, Ok}
use Rattle.std.proofs.lemmas.Result.{err_from_is_err_and}
use Rattle.commands.proofs.Numbering.{are-numbered}
use Rattle.commands.proofs.Staging.{reading-first, reading-value}
use Rattle.commands.proofs.subject.subject_of.Goals as goal
use Rattle.commands.specs.Waves.{DirectivesReading, subject_of}

pub returns-in_err-directives-clause-reading : goal.returns-in_err-directives-clause-reading
returns-in_err-directives-clause-reading c =
    let p = err_from_is_err_and c.from_residual.result c.from_residual.ensures.1 in
    rw (p.1, p.2) (reading-first (DirectivesReading c.args.unit.now c.args.circuit.tree c.args.circuit.netlist.names) (λ directives result. result ≡ Ok (subject_of c.args.circuit directives))
    (c.args.unit.now ∷ []) _ (rw c.names.ensures.names at c.in_err-directives.ensures.reading))

pub returns-clause-reading : goal.returns-clause-reading
returns-clause-reading c =
    reading-value (DirectivesReading c.args.unit.now c.args.circuit.tree c.args.circuit.netlist.names) (subject_of c.args.circuit)
    (c.args.unit.now ∷ []) c.in_ok-directives.directives (rw c.names.ensures.names at c.in_ok-directives.ensures.reading)

pub returns-clause-numbered : goal.returns-clause-numbered
returns-clause-numbered c =
    are-numbered c.args.circuit.tree c.args.circuit.netlist.names c.in_ok-directives.directives
    (rw c.names.ensures.names at c.in_ok-directives.ensures.reading.gives)
