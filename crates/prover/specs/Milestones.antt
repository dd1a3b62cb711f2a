-- What the milestones of a search say.
use Rattle.std.specs.Prelude.{ℕ, suc, List}
use Rattle.netlist.specs.Design.{Design}
use Rattle.psl_tree.specs.declared.directive.Directive.{Directive}
use Rattle.reach.specs.Holding.{HaveHeld}
use Rattle.prover.specs.Ends.{joint_of}
use Rattle.prover.specs.Violating.{NoneBelow}
use Rattle.prover.specs.Windows.{StaysOpen}
use Rattle.prover.specs.declared.milestone.Milestone.{Milestone}
use Rattle.prover.specs.declared.milestone.Milestone.TheVariants.{NoneWithin, Open, Frames}
use Rattle.prover.specs.declared.task.Task.{Task}

-- No run of at most so many valuations violates what is owed. Or some path is open at the window, for each number of visits
-- up to one. Or so many frames keep the bad states out, where states count so many visits.
abbrev pub IsMilestone : Design → List Directive → Directive → Milestone → Type 0
IsMilestone design unit directive (NoneWithin size) = NoneBelow design unit directive (suc size)
IsMilestone design unit directive (Open window visits) = StaysOpen design unit directive (suc visits) window
IsMilestone design unit directive (Frames visits count) = HaveHeld (joint_of design unit directive visits) count

abbrev pub IsMilestoneFor : Task → Milestone → Type 0
IsMilestoneFor task milestone = IsMilestone task.netlist.now task.unit.now task.directive.now milestone
