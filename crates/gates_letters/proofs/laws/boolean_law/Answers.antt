use Rattle.gates_letters.proofs.BooleanValues.{boolean-made}
use Rattle.gates_letters.proofs.Shown.{shown-boolean}
use Rattle.gates_letters.proofs.laws.boolean_law.Goals as goal

pub returns : goal.returns
returns c = record { value = boolean-made; shown = shown-boolean }
