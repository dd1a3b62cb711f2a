use Rattle.std.proofs.Common.{◌≡◌, drop}
use Rattle.std.specs.List.{list_any}
use Rattle.netlist.specs.Valuations.{values, fits_row}
use Rattle.netlist.proofs.evaluation.is_met.Given as goal

abbrev pub invariant-loop-place : goal.invariant-loop-place
invariant-loop-place l =
    list_any (λ row. fits_row row (values l.valuation l.table.inputs)) l.table.rows ≡ list_any (λ row. fits_row row (values l.valuation l.table.inputs)) (drop l.place l.table.rows)
