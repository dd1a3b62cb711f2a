use Rattle.std.proofs.Common.{◌≡◌, map, take}
use Rattle.blif_hierarchy.specs.Drivers.{inputs_in}
use Rattle.blif_flat.specs.Inputs.{number_in}
use Rattle.blif_flat.specs.Lines.{inputs_of}
use Rattle.blif_flat.proofs.flat.listed_inputs.Given as goal

abbrev pub invariant-loop-item : goal.invariant-loop-item
invariant-loop-item l = l.inputs ≡ map (number_in l.numbers) (inputs_in inputs_of (take l.item-index l.items))
