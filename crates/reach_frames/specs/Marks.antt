-- Parts of cubes and clauses.
use Rattle.std.specs.Prelude.{◌-◌, ℤ, Bool as Truth, false, not, List, slice_index_or}
use Rattle.std.specs.List.{filter, list_all, list_any}
use Rattle.std.specs.Ordering.{int_eq}
use Rattle.clauses.specs.Literals.{variable_of}
use Rattle.reach_frames.specs.declared.level.KeptClause.{KeptClause}

-- a mask marks a literal: its variable's bit is set
abbrev pub is_marked : List Truth → ℤ → Truth
is_marked mask literal = slice_index_or mask (variable_of literal - 1) false

-- a literal is one of some
abbrev pub is_among : List ℤ → ℤ → Truth
is_among literals literal = list_any (λ other. int_eq other literal) literals

-- the literals of a list all stand in another
abbrev pub is_part : List ℤ → List ℤ → Truth
is_part part whole = list_all (is_among whole) part

-- some clause is a part of this one
abbrev pub has_part : List (List ℤ) → List ℤ → Truth
has_part clauses clause = list_any (λ other. is_part other clause) clauses

-- the clauses of a level of which this one is no part
abbrev pub without_weaker : List ℤ → List KeptClause → List KeptClause
without_weaker clause level = filter (λ kept. not (is_part clause kept.clause)) level
