use Rattle.std.proofs.Common.{◌≡◌, map}
use Rattle.std.specs.List.{range_with_len}
use Rattle.run_terms.specs.Formulas.{values_of}
use Rattle.bounded.specs.Adding.{frame_in}
use Rattle.bounded.specs.Found.{filled, free_values}
use Rattle.bounded.proofs.runs.valuations.Given as goal

abbrev pub invariant-loop-step : goal.invariant-loop-step
invariant-loop-step l = l.all ≡ map (λ place. filled l.netlist (free_values l.netlist (values_of l.values) (frame_in l.frames place))) (range_with_len l.first l.step)
