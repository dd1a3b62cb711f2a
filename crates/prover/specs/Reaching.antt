-- How far the searches for inductive clauses have come.
use Rattle.std.specs.Prelude.{◌≡◌, ℕ, suc, ◌<◌, ◌≤◌, false, if◌then◌else◌, List, length, slice_get, Option, Some, IfSome}
use Rattle.joint.specs.Joined.{Joined}
use Rattle.reach.specs.Searched.{Searched}
use Rattle.reach.specs.declared.answer.Reached.{Reached}
use Rattle.prover.specs.Ends.{joint_of, AreEnds, IsEnd}
use Rattle.prover.specs.Views.{IsJointOf}
use Rattle.prover.specs.declared.options.Options.{Options}
use Rattle.prover.specs.declared.reaching.Reaching.{Reaching}
use Rattle.prover.specs.declared.task.Task.{Task}

-- how many numbers of visits inductive clauses are sought for
abbrev pub searches_of : Options → ℕ
searches_of options = if options.reach then suc options.visits else 0

abbrev pub joint_for : Task → ℕ → Joined
joint_for task visits = joint_of task.netlist.now task.unit.now task.directive.now visits

abbrev pub IsEndFor : Task → ℕ → Reached → Type 0
IsEndFor task visits end = IsEnd task.netlist.now task.unit.now task.directive.now task.options visits end

abbrev pub AreEndsFor : Task → ℕ → List Reached → Type 0
AreEndsFor task count ends = AreEnds task.netlist.now task.unit.now task.directive.now task.options count ends

-- there is an end for each of so many numbers of visits
abbrev pub HaveEnded : Task → ℕ → Type 0
HaveEnded task count = (visits : ℕ) → visits < count → (end : Reached) × IsEndFor task visits end

-- the joint states for each of so many numbers of visits, in order from 0 on
pub record AreJointsFor (task : Task) (count : ℕ) (joints : List Joined) : Type 0 where
  pub many : length joints ≡ count
  pub each : (visits : ℕ) (joint : Joined) → slice_get joints visits ≡ Some joint → IsJointOf task visits joint

-- a search over joint states that may go on, with as many frames as the depth
abbrev pub IsBegun : Task → Joined → Searched → Type 0
IsBegun task joint search = search ≡ record {
  joined = joint;
  most = task.options.depth;
  steps = task.options.steps;
  has_ended = false;
}

-- the searches for so many numbers of visits have ended, and that for the next one may have begun
pub record HaveCome (task : Task) (count : ℕ) (ends : List Reached) (search : Option Searched) : Type 0 where
  pub few : count ≤ searches_of task.options
  pub each_end : AreEndsFor task count ends
  pub begun : IfSome search (IsBegun task (joint_for task count))

pub record IsReaching (task : Task) (reaching : Reaching) : Type 0 where
  pub joints : AreJointsFor task (searches_of task.options) reaching.joints.now
  pub come : HaveCome task (length reaching.ends) reaching.ends reaching.search
