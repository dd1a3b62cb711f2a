use Rattle.std.proofs.Common.{◌≡◌, ℕ, List, Ok, subst}
use Rattle.std.proofs.lemmas.Result.{err_from_is_err_and}
use Rattle.vcd_reader.specs.Meaning.{reading}
use Rattle.vcd_reader.specs.Rows.{kept_as}
use Rattle.vcd_reader.proofs.reading.read_bytes.Goals as goal

pub returns-in_err-parts-clause-err : goal.returns-in_err-parts-clause-err
returns-in_err-parts-clause-err c =
    let p = err_from_is_err_and c.from_residual.result c.from_residual.ensures.1 in
    let fault = rw c.as_slice.ensures at c.in_err-parts.ensures.err in
    rw (p.1, p.2) (fault c.args.unknown)

pub returns-clause-ok : goal.returns-clause-ok
returns-clause-ok c =
    let parts = c.in_ok-parts.parts in
    rw c.of.ensures
    (subst (λ (bytes : List ℕ). reading c.args.unknown bytes ≡ Ok (kept_as parts.names bytes parts.samples parts.changes.items parts.starts.items c.args.unknown)) c.as_slice.ensures
    (c.in_ok-parts.ensures.ok c.args.unknown))
