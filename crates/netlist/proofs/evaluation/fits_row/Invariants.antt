use Rattle.std.proofs.Common.{◌≡◌, drop}
use Rattle.netlist.specs.Valuations.{values, fits_row}
use Rattle.netlist.proofs.evaluation.fits_row.Given as goal

abbrev pub invariant-loop-place : goal.invariant-loop-place
invariant-loop-place l = fits_row l.row (values l.valuation l.inputs) ≡ fits_row (drop l.place l.row) (values l.valuation (drop l.place l.inputs))
