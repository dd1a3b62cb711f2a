-- How contracts see one of two searches side by side, what it keeps, and what its turn comes to.
use Rattle.std.specs.Prelude.{◌≡◌, ℕ, ◌≤◌, false, List, length, Option, None, IfSome, IfNone, IsSome}
use Rattle.joint.specs.Joined.{Joined}
use Rattle.reach.specs.Holding.{HaveHeld}
use Rattle.reach.specs.Searched.{Searched}
use Rattle.reach.specs.Systems.{system_of}
use Rattle.reach.specs.Answers.{IsReached}
use Rattle.reach.specs.declared.aim.Aim.{Aim}
use Rattle.reach.specs.declared.aim.Turned.{Turned}
use Rattle.reach.specs.declared.aim.Turned.TheVariants as turns
use Rattle.reach.specs.declared.answer.Reached.{Reached}
use Rattle.reach.specs.declared.pacing.Sought.{Sought}
use Rattle.reach.specs.declared.side.Side.TheInside.{Inside}
use Rattle.reach_frames.specs.Levels.{frames_of, AreWitnesses}
use Rattle.reach_frames.specs.Systems.{AreSound}
use Rattle.reach_frames.specs.declared.level.KeptClause.{KeptClause}

abbrev pub searched_of : Inside → Searched
searched_of search = record {
  joined = search.machine.joint.now;
  most = search.most;
  steps = search.machine.steps;
  has_ended = search.has_ended;
}

-- frames that can be gone on with
pub record AreGood (joined : Joined) (most : ℕ) (levels : List (List KeptClause)) : Type 0 where
  pub sound : AreSound (system_of joined) (frames_of levels)
  pub witnessed : AreWitnesses (system_of joined) levels
  pub few : length levels ≤ most

-- the same, and cubes are followed as far as a path can be told at least
pub record IsSought (joined : Joined) (most : ℕ) (sought : Sought) : Type 0 where
  pub good : AreGood joined most sought.frames
  pub more : most ≤ sought.room
  pub few : sought.room ≤ 1000
  pub held : IfSome sought.held (HaveHeld joined)

pub record IsSide (search : Inside) : Type 0 where
  pub depth : search.most ≤ 1000
  pub sought : search.has_ended ≡ false → IsSought search.machine.joint.now search.most search.sought

-- it goes on for an aim
abbrev pub IsGoing : Aim → Searched → Type 0
IsGoing aim side = side ≡ record { joined = aim.joint.now; most = aim.most; steps = aim.steps; has_ended = false }

-- an answer for an aim
abbrev pub IsLeft : Aim → Reached → Type 0
IsLeft aim reached = IsReached aim.joint.now aim.most aim.steps reached

-- Two searches for an aim, of which each may have ended or not begun, and an answer that the first to end left, if there
-- is one. There is one where the first search has ended.
pub record AreSides (aim : Aim) (first second : Option Searched) (left : Option Reached) : Type 0 where
  pub first_goes : IfSome first (IsGoing aim)
  pub second_goes : IfSome second (IsGoing aim)
  pub left_is : IfSome left (IsLeft aim)
  pub told : IfNone first (IsSome left)

-- A search after its turn, and the answer that is left. With no budget it has ended, if it is to have all frames.
pub record IsOn (aim : Aim) (side : Option Searched) (left : Option Reached) (frames : ℕ) (budget : Option ℕ) (new_side : Option Searched) (new_left : Option Reached) : Type 0 where
  pub goes : IfSome new_side (IsGoing aim)
  pub left_is : IfSome new_left (IsLeft aim)
  pub kept : IsSome left → IsSome new_left
  pub told : IfNone side (IsSome left) → IfNone new_side (IsSome new_left)
  pub ended : budget ≡ None → frames ≡ aim.most → new_side ≡ None

abbrev pub IsTurned : Aim → Option Searched → Option Reached → ℕ → Option ℕ → Turned → Type 0
IsTurned aim side left frames budget (turns.Decided reached) = IsLeft aim reached
IsTurned aim side left frames budget (turns.On new_side new_left) = IsOn aim side left frames budget new_side new_left
