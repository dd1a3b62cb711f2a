use Rattle.std.proofs.Common.{rules, ◌+◌, ◌<◌, arith, false, [], map, drop, length, get_or, w32}
use mir.Val.{SFits}
use Rattle.std.proofs.lemmas.Int.{to_z-of_z}
use Rattle.std.proofs.lemmas.Result.{err_from_is_err_and}
use Rattle.run_terms.specs.Booleans.{constant, either}
use Rattle.run_terms.specs.Tables.{all_of, row_literals}
use Rattle.run_gates.specs.Building.{place_at, with_either}
use Rattle.run_gates.proofs.Folds.{either-join, so_far-step, so_far-term, so_far-join, one_of-joined}
use Rattle.run_gates.proofs.Rows.{row_terms, rows-drop}
use Rattle.run_gates.proofs.tables.add_rows.Goals as goal

pub returns-in_err-fits : goal.returns-in_err-fits
returns-in_err-fits c =
    let i = c.loop-i.i in
    let rows = c.args.rows.now in
    let literals = map (place_at c.args.offset) c.args.inputs.now in
    let below : i < length rows = omega arith in
    let term = all_of (row_literals (get_or rows i []) literals) in
    let before = rw (rows-drop literals rows i below) at c.loop-i.invariant.so_far in
    let p = err_from_is_err_and c.from_residual.result c.from_residual.ensures.1 in
    let failed = rw c.at.ensures at c.in_err-fits.ensures in
    rw (p.1, p.2, ← one_of-joined (row_terms literals rows))
    (so_far-term either with_either (constant false) c.args.gates.now c.loop-i.gates c.add_row.new.gates c.loop-i.found term (row_terms literals (drop (i + 1) rows)) (row_terms literals rows)
    c.in_err-fits.field-0.0 either-join before failed)

pub returns-in_err-add_or : goal.returns-in_err-add_or
returns-in_err-add_or c =
    let i = c.loop-i.i in
    let rows = c.args.rows.now in
    let literals = map (place_at c.args.offset) c.args.inputs.now in
    let below : i < length rows = omega arith in
    let term = all_of (row_literals (get_or rows i []) literals) in
    let before = rw (rows-drop literals rows i below) at c.loop-i.invariant.so_far in
    let p = err_from_is_err_and c.from_residual-in_err-add_or.result c.from_residual-in_err-add_or.ensures.1 in
    let fits = c.in_ok-fits.fits in
    let fits_fits : SFits w32 fits = search rules in
    let built = rw c.at.ensures at c.in_ok-fits.ensures in
    let failed = simp to_z-of_z at c.in_err-add_or.ensures in
    rw (p.1, p.2, ← one_of-joined (row_terms literals rows))
    (so_far-join either with_either (constant false) c.args.gates.now c.loop-i.gates c.add_row.new.gates c.add_or.new.gates c.loop-i.found term fits (row_terms literals (drop (i + 1) rows)) (row_terms literals rows)
    c.in_err-add_or.field-0.0 either-join before built failed)

pub loop-i-preserved : goal.loop-i-preserved
loop-i-preserved c =
    let i = c.loop-i.i in
    let rows = c.args.rows.now in
    let literals = map (place_at c.args.offset) c.args.inputs.now in
    let below : i < length rows = omega arith in
    let term = all_of (row_literals (get_or rows i []) literals) in
    let before = rw (rows-drop literals rows i below) at c.loop-i.invariant.so_far in
    let fits = c.in_ok-fits.fits in
    let output = c.in_ok-add_or.field-0 in
    let fits_fits : SFits w32 fits = search rules in
    let fits_output : SFits w32 output = search rules in
    let built = rw c.at.ensures at c.in_ok-fits.ensures in
    let joins = simp to_z-of_z at c.in_ok-add_or.ensures in
    let after = so_far-step either with_either (constant false) c.args.gates.now c.loop-i.gates c.add_row.new.gates c.add_or.new.gates c.loop-i.found term fits output (row_terms literals (drop (i + 1) rows)) (row_terms literals rows)
    either-join before built joins in
    record { so_far = rw to_z-of_z after }
