use Rattle.gates_letters.proofs.CombinationValues.{by-made, combination-made}
use Rattle.gates_letters.proofs.Shown.{shown-combination}
use Rattle.gates_letters.proofs.laws.combination_law.Goals as goal

pub returns : goal.returns
returns c = record { made = by-made; value = combination-made; shown = shown-combination }
