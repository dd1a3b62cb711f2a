-- Paths that are too long to be told.
use Rattle.std.specs.Prelude.{ℕ, suc, nat_lt, Bool as Truth, false, length}
use Rattle.reach_frames.specs.declared.step.Step.{Step}
use Rattle.reach_frames.specs.declared.step.Step.TheVariants.{Cleared, Invariant, Path, Paused}

-- whether a step comes to a path of more than so many states and one
abbrev pub is_too_long : ℕ → Step → Truth
is_too_long most (Path path) = nat_lt (suc most) (length path)
is_too_long most (Cleared stuck) = false
is_too_long most (Invariant clauses) = false
is_too_long most Paused = false
