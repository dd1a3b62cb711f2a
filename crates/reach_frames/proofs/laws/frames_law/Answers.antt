use Rattle.std.proofs.Common.{arith}
use Rattle.reach_frames.proofs.Ending.{sound_more, sound_none, witnessed_more}
use Rattle.reach_frames.proofs.laws.frames_law.Goals as goal

pub returns-clause-none : goal.returns-clause-none
returns-clause-none g c = (sound_none (g.M.Machine.system c.args._machine.now), λ k d end. absurd (omega (arith, end)))

pub returns-clause-more : goal.returns-clause-more
returns-clause-more g c = sound_more (g.M.Machine.system c.args._machine.now)

pub returns-clause-noted : goal.returns-clause-noted
returns-clause-noted g c = witnessed_more (g.M.Machine.system c.args._machine.now)
