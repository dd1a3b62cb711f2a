use Rattle.std.proofs.Common.{◌≡◌, ◌+◌, ◌<◌, [], ◌∷◌, drop, get_or, length, subst, to_z, rules, arith, w32}
use mir.Val.{SFits}
use Rattle.std.proofs.lemmas.Int.{to_z-of_z}
use Rattle.std.proofs.lemmas.List.{drop_more}
use Rattle.std.proofs.lemmas.Result.{err_from_is_err_and}
use Rattle.gates_nodes.specs.Tables.{some_row, with_row}
use Rattle.gates_builder.proofs.Growing.{more-added, of-more}
use Rattle.gates_builder.proofs.Loops.{SoFar, fits_of, more-fits, rows-fail, rows-fail_or, rows-step}
use Rattle.gates_builder.proofs.builder.Builder.rows.Goals as goal

pub or-requires-clause-first : goal.or-requires-clause-first
or-requires-clause-first c =
    let i = c.loop-i.i in
    let rows = c.args.rows.now in
    let literals = c.args.literals.now in
    let mid = c.loop-i.self in
    let row = get_or rows i [] in
    let first = rw c.at.ensures at c.in_ok-fits.ensures in
    let more = more-added mid c.row.new.self (fits_of mid.given mid.nodes row literals) c.in_ok-fits.fits (more-fits mid.given mid.nodes row literals) first in
    of-more mid c.row.new.self (to_z w32 c.loop-i.output-bits) more (record { within = c.loop-i.invariant.within; literal = c.loop-i.invariant.literal })

pub loop-i-preserved : goal.loop-i-preserved
loop-i-preserved c =
    let now = c.args.self.now in
    let i = c.loop-i.i in
    let rows = c.args.rows.now in
    let literals = c.args.literals.now in
    let output = to_z w32 c.loop-i.output-bits in
    let below : i < length rows = omega arith in
    let row = get_or rows i [] in
    let fits_fits : SFits w32 c.in_ok-fits.fits = search rules in
    let fits_result : SFits w32 c.in_ok-output.output = search rules in
    let whole = some_row now.given now.nodes rows literals in
    let next : drop i rows ≡ row ∷ drop (i + 1) rows = drop_more rows i [] below in
    let before = subst (λ left. SoFar (with_row now.given literals) now c.loop-i.self output left whole) next c.loop-i.invariant in
    let first = rw c.at.ensures at c.in_ok-fits.ensures in
    let second = simp to_z-of_z at c.in_ok-output.ensures in
    rw to_z-of_z (rows-step now c.loop-i.self c.row.new.self c.or.new.self output c.in_ok-fits.fits c.in_ok-output.output literals row (drop (i + 1) rows) whole before first second)

pub returns-in_err-fits : goal.returns-in_err-fits
returns-in_err-fits c =
    let now = c.args.self.now in
    let i = c.loop-i.i in
    let rows = c.args.rows.now in
    let literals = c.args.literals.now in
    let output = to_z w32 c.loop-i.output-bits in
    let below : i < length rows = omega arith in
    let row = get_or rows i [] in
    let whole = some_row now.given now.nodes rows literals in
    let next : drop i rows ≡ row ∷ drop (i + 1) rows = drop_more rows i [] below in
    let before = subst (λ left. SoFar (with_row now.given literals) now c.loop-i.self output left whole) next c.loop-i.invariant in
    let failed = rw c.at.ensures at c.in_err-fits.ensures in
    let p = err_from_is_err_and c.from_residual.result c.from_residual.ensures.1 in
    rw (p.1, p.2) (rows-fail now c.loop-i.self c.row.new.self output literals row (drop (i + 1) rows) whole c.in_err-fits.field-0.0 before failed)

pub returns-in_err-output : goal.returns-in_err-output
returns-in_err-output c =
    let now = c.args.self.now in
    let i = c.loop-i.i in
    let rows = c.args.rows.now in
    let literals = c.args.literals.now in
    let output = to_z w32 c.loop-i.output-bits in
    let below : i < length rows = omega arith in
    let row = get_or rows i [] in
    let fits_fits : SFits w32 c.in_ok-fits.fits = search rules in
    let whole = some_row now.given now.nodes rows literals in
    let next : drop i rows ≡ row ∷ drop (i + 1) rows = drop_more rows i [] below in
    let before = subst (λ left. SoFar (with_row now.given literals) now c.loop-i.self output left whole) next c.loop-i.invariant in
    let first = rw c.at.ensures at c.in_ok-fits.ensures in
    let failed = simp to_z-of_z at c.in_err-output.ensures in
    let p = err_from_is_err_and c.from_residual-in_err-output.result c.from_residual-in_err-output.ensures.1 in
    rw (p.1, p.2) (rows-fail_or now c.loop-i.self c.row.new.self c.or.new.self output c.in_ok-fits.fits literals row (drop (i + 1) rows) whole c.in_err-output.field-0.0 before first failed)
