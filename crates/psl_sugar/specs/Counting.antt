-- What a count asks for.
use Rattle.std.specs.Prelude.{◌==◌, ◌&&◌, Bool, false}
use Rattle.psl_sugar.specs.declared.count.Count.{Count}
use Rattle.psl_sugar.specs.declared.count.Count.TheVariants.{Times, Between, AtLeast}

-- whether it asks for no repetition at all: a sequence so often is the empty one, whatever the sequence is
abbrev pub is_zero : Count → Bool
is_zero (Times count) = count == 0
is_zero (Between low high) = low == 0 && high == 0
is_zero (AtLeast _) = false
