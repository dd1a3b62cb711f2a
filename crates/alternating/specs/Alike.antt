-- What two combinations owe, by which those that differ are told apart soonest: the states of a sequence share
-- what follows it, and any Boolean may be large.
use Rattle.std.specs.Prelude.{Bool as Truth, true, ◌&&◌, ◌==◌}
use Rattle.alternating_theory.specs.Positive.{Positive, Owed, And, Or}

-- they owe the same numbers in the same places, as far as their forms agree
abbrev pub owe_alike : Positive → Positive → Truth
owe_alike (Owed number) (Owed other) = number == other
owe_alike (And left right) (And first second) = owe_alike left first && owe_alike right second
owe_alike (Or left right) (Or first second) = owe_alike left first && owe_alike right second
owe_alike _ _ = true
