use Rattle.std.proofs.Common.{◌≡◌, ◌++◌, drop}
use Rattle.std.specs.List.{flat_map}
use Rattle.psl_layer_theory.specs.Buses.{indexed}
use Rattle.psl_names.specs.Ranges.{bus_told}
use Rattle.psl_names.proofs.buses.bus_names.Given as goal

abbrev pub invariant-loop-name : goal.invariant-loop-name
invariant-loop-name l =
    l.buses ++ flat_map (λ name. bus_told l.ranges (indexed name.text)) (drop l.name-index l.names) ≡ flat_map (λ name. bus_told l.ranges (indexed name.text)) l.names
