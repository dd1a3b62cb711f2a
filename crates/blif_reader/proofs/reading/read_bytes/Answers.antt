use Rattle.std.proofs.lemmas.Result.{err_from_is_err_and}
use Rattle.blif_reader.proofs.Faulting.{read-fault}
use Rattle.blif_reader.proofs.reading.read_bytes.Goals as goal

pub returns-in_err-text-clause-err : goal.returns-in_err-text-clause-err
returns-in_err-text-clause-err c =
    let p = err_from_is_err_and c.from_residual.result c.from_residual.ensures.1 in
    rw (p.1, p.2) (read-fault c.args.bytes.now c.in_err-text.field-0.0 c.in_err-text.ensures.fault)
