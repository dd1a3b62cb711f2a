use Rattle.std.proofs.Common.{◌≡◌, ◌∙◌, sym, ap, subst, cond, neg_ℤ, map, rules, w32}
use mir.Val.{SFits}
use Rattle.std.proofs.lemmas.Int.{to_z-of_z}
use Rattle.std.proofs.lemmas.Result.{err_from_is_err_and}
use Rattle.gates_builder.specs.Adding.{AreOf}
use Rattle.gates_frames.specs.Frames.{literal_at}
use Rattle.gates_unroll.proofs.Reading.{some-fails, some-read}
use Rattle.gates_unroll.proofs.tables.large_table.Goals as goal

pub rows-requires : goal.rows-requires
rows-requires c = subst (AreOf c.args.builder.now) (sym c.as_slice-2.ensures) (c.in_ok-read.ensures.are c.args.builder.now c.requires.literals)

pub returns-in_err-fits : goal.returns-in_err-fits
returns-in_err-fits c =
    let old = c.args.builder.now in
    let table = c.args.table.now in
    let literals = map (literal_at old.given c.args.literals.now) table.inputs in
    let read_is = c.in_ok-read.ensures.is old.given ∙ ap (map (literal_at old.given c.args.literals.now)) c.as_slice.ensures in
    let p = err_from_is_err_and c.from_residual-in_err-fits.result c.from_residual-in_err-fits.ensures.1 in
    rw (p.1, p.2) (some-fails old c.rows.new.self table c.in_ok-read.read c.as_slice-2.result.now literals c.in_err-fits.field-0.0 c.as_slice-2.ensures read_is c.in_err-fits.ensures)

pub returns : goal.returns
returns c =
    let old = c.args.builder.now in
    let table = c.args.table.now in
    let fits = c.in_ok-fits.fits in
    let fits_fits : SFits w32 c.in_ok-fits.fits = search rules in
    let fits_result : SFits w32 c.signed.result = search rules in
    let literals = map (literal_at old.given c.args.literals.now) table.inputs in
    let read_is = c.in_ok-read.ensures.is old.given ∙ ap (map (literal_at old.given c.args.literals.now)) c.as_slice.ensures in
    let is : c.signed.result ≡ cond table.value fits (neg_ℤ fits) = simp to_z-of_z at c.signed.ensures.is in
    rw to_z-of_z (some-read old c.rows.new.self table c.in_ok-read.read c.as_slice-2.result.now literals fits c.signed.result c.as_slice-2.ensures read_is is c.signed.ensures.literal c.in_ok-fits.ensures)
