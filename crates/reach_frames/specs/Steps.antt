-- What a step of the search ends in.
use Rattle.std.specs.Prelude.{ℕ, ◌+◌, List, Option, is_some, IsTrue}
use Rattle.reach_frames.specs.Levels.{frames_of}
use Rattle.reach_frames.specs.Paths.{IsViolation}
use Rattle.reach_frames.specs.Systems.{System, AreOpen, IsInvariant}
use Rattle.reach_frames.specs.declared.level.KeptClause.{KeptClause}
use Rattle.reach_frames.specs.declared.step.Step.{Step}
use Rattle.reach_frames.specs.declared.step.Step.TheVariants.{Cleared, Invariant, Path, Paused}

-- what a step with a budget has found of levels
abbrev pub IsStep : System → ℕ → Option ℕ → List (List KeptClause) → Step → Type 0
IsStep system most budget levels (Cleared stuck) = AreOpen system (frames_of levels) stuck
IsStep system most budget levels (Invariant clauses) = IsInvariant system clauses
IsStep system most budget levels (Path path) = IsViolation system (most + 1) path
IsStep system most budget levels Paused = IsTrue (is_some budget)

-- what moving clauses on ends in
abbrev pub IsEnd : System → List (List KeptClause) → Step → Type 0
IsEnd system levels (Cleared stuck) = AreOpen system (frames_of levels) stuck
IsEnd system levels (Invariant clauses) = IsInvariant system clauses
IsEnd system levels (Path path) = ⊥
IsEnd system levels Paused = ⊥
