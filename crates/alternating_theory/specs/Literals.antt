-- Booleans as literals: what stands behind the Nots at the head, and whether these cancel out.
use Rattle.std.specs.Prelude.{Bool as Truth, true, not, if◌then◌else◌}
use Rattle.psl_tree.specs.Trees.{Boolean, Not}

-- the Nots at the head of a Boolean are even in number
abbrev pub is_unnegated : Boolean → Truth
is_unnegated (Not part) = not (is_unnegated part)
is_unnegated _ = true

-- what stands behind the Nots at the head
abbrev pub bare : Boolean → Boolean
bare (Not part) = bare part
bare test = test

-- the negation, with at most one Not at its head
abbrev pub negated : Boolean → Boolean
negated test = if is_unnegated test then Not (bare test) else bare test
