use Rattle.std.proofs.Common.{◌≡◌, ◌++◌, map, take}
use Rattle.blif_flat.specs.Inputs.{number_in}
use Rattle.blif_flat.proofs.flat.add_inputs.Given as goal

abbrev pub invariant-loop-name : goal.invariant-loop-name
invariant-loop-name l = l.inputs ≡ l.initial.inputs ++ map (number_in l.numbers) (take l.name-index l.names)
