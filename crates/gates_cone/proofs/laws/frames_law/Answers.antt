use Rattle.gates_cone.proofs.SameFrames.{same-frames}
use Rattle.gates_cone.proofs.laws.frames_law.Goals as goal

pub returns : goal.returns
returns c = same-frames
