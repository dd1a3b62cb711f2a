-- What a step of a search comes to.
use Rattle.std.specs.Prelude.{ℕ, ◌<◌, List, Option, IsTrue, is_some, length}
use Rattle.joint.specs.Joined.{Joined}
use Rattle.reach.specs.Answers.{IsReached}
use Rattle.reach.specs.declared.stepping.Progress.{Progress}
use Rattle.reach.specs.declared.stepping.Progress.TheVariants.{Cleared, Paused, Ended}
use Rattle.reach_frames.specs.declared.level.KeptClause.{KeptClause}

abbrev pub IsProgress : Joined → ℕ → ℕ → Option ℕ → List (List KeptClause) → Progress → Type 0
IsProgress joined steps most budget levels Cleared = length levels < most
IsProgress joined steps most budget levels Paused = IsTrue (is_some budget)
IsProgress joined steps most budget levels (Ended reached) = IsReached joined most steps reached
