use Rattle.std.proofs.Common.{refl}
use Rattle.gates_frames.proofs.laws.example_law.Goals as goal

pub returns : goal.returns
returns c = record { initial = refl; initial_next = refl; any = refl; any_next = refl }
