-- Trees without a wrong piece.
use Rattle.std.specs.Prelude.{⊤}
use Rattle.psl_grammar.specs.Trees.{Node, Whole, UnitOf, Listed, Labelled, Directed, Declared, Prefix, Infix, Postfix, Posted, Grouped, Braced, Leaf, Named, Indexed, Edge, NextForm, Repeat, Clocked, Times, Between, Tail, Absent, Wrong}

-- nothing in the tree is wrong
abbrev pub IsSound : Node → Type 0
IsSound (Whole x) = IsSound x
IsSound (UnitOf name x y) = IsSound x × IsSound y
IsSound (Listed x y) = IsSound x × IsSound y
IsSound (Labelled label x) = IsSound x
IsSound (Directed word x y) = IsSound x × IsSound y
IsSound (Declared word name x) = IsSound x
IsSound (Prefix operator x) = IsSound x
IsSound (Infix x operator y) = IsSound x × IsSound y
IsSound (Postfix x operator) = IsSound x
IsSound (Posted x y) = IsSound x × IsSound y
IsSound (Grouped opening x) = IsSound x
IsSound (Braced opening x) = IsSound x
IsSound (Leaf token) = ⊤
IsSound (Named tokens) = ⊤
IsSound (Indexed x number) = IsSound x
IsSound (Edge edge x) = IsSound x
IsSound (NextForm word x y z) = IsSound x × IsSound y × IsSound z
IsSound (Repeat opening x) = IsSound x
IsSound (Clocked at x) = IsSound x
IsSound (Times number) = ⊤
IsSound (Between low high) = ⊤
IsSound (Tail operator x y) = IsSound x × IsSound y
IsSound Absent = ⊤
IsSound Wrong = ⊥
