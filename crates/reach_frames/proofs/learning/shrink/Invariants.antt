use Rattle.std.proofs.Common.{length}
use Rattle.reach_frames.specs.Searches.{IsShut, IsWithin}
use Rattle.reach_frames.proofs.learning.shrink.Given as goal

abbrev pub invariant-loop-shut : goal.invariant-loop-shut
invariant-loop-shut g l = record {
  shut : IsShut (g.M.Machine.system l.machine) l.frame l.initial' l.shut.cube;
  within : IsWithin l.fn.shut.cube l.shut.cube;
}

abbrev pub decreases-loop-shut : goal.decreases-loop-shut
decreases-loop-shut g l = length l.shut.cube
