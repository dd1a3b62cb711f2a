use Rattle.gates_cone.proofs.Feeding.{fed-least, fed-within}
use Rattle.gates_cone.proofs.laws.cone_law.Goals as goal

pub returns : goal.returns
returns c = record { least = fed-least; within = λ design signals sound inside signal is. fed-within design signals sound inside design.signals signal is }
