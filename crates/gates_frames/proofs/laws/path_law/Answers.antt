use Rattle.gates_frames.proofs.FramePaths.{frames-path, frames-sound, path-shown}
use Rattle.gates_frames.proofs.laws.path_law.Goals as goal

pub returns : goal.returns
returns c = record {
  paths = λ covers given design order cone initial nodes source values last design_sound ordered closed covered sound holds.
      frames-path covers given design order cone (record { sound = design_sound; ordered = ordered; closed = closed; covered = covered }) initial nodes sound source values last holds;
  shown = λ covers given design order cone initial nodes values last path design_sound ordered closed covered sound is size holds.
      path-shown covers given design order cone (record { sound = design_sound; ordered = ordered; closed = closed; covered = covered }) initial nodes sound values last path is size holds;
  sound = λ covers given design order cone initial nodes number design_sound ordered closed covered sound.
      frames-sound covers given design order cone (record { sound = design_sound; ordered = ordered; closed = closed; covered = covered }) initial nodes sound number;
}
