use Rattle.reach_frames.specs.Searches.{IsShut, IsWithin}
use Rattle.reach_frames.proofs.leaving_out.leave_out.Given as goal

abbrev pub invariant-loop-turn : goal.invariant-loop-turn
invariant-loop-turn g l = record {
  shut : IsShut (g.M.Machine.system l.machine) l.frame l.initial' l.cube;
  within : IsWithin l.fn.cube l.cube;
}
