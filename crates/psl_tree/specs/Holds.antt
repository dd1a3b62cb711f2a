-- What a Boolean says of one letter.
use Rattle.std.specs.Prelude.{Bool as Truth, true, false, not, ◌&&◌, ◌||◌, ◌==◌, ℕ, List}
use Rattle.std.specs.List.{list_any}
use Rattle.psl_tree.specs.Trees.{Boolean, Const, Test, Not, And, Or}
use Rattle.psl_tree.specs.declared.atom.Atom.{Atom}
use Rattle.psl_tree.specs.declared.atom.Edge.{Edge}
use Rattle.psl_tree.specs.declared.atom.Edge.TheVariants.{Value, Rise, Fall}
use Rattle.psl_tree.specs.declared.letter.Letter.{Letter}
use Rattle.psl_tree.specs.declared.letter.Letter.TheVariants.{Top, Bottom, Holds}

-- an edge's number
abbrev pub edge_number : Edge → ℕ
edge_number Value = 0
edge_number Rise = 1
edge_number Fall = 2

-- the two atoms ask the same of the same bit
abbrev pub is_same_atom : Atom → Atom → Truth
is_same_atom left right =
    (left.signal == right.signal) && (left.bit == right.bit) && (edge_number left.edge == edge_number right.edge)

-- a Boolean on a letter on which these atoms hold (IEEE 1850, clause 5)
abbrev pub holds_among : List Atom → Boolean → Truth
holds_among atoms (Const value) = value
holds_among atoms (Test atom) = list_any (λ held. is_same_atom atom held) atoms
holds_among atoms (Not part) = not (holds_among atoms part)
holds_among atoms (And left right) = holds_among atoms left && holds_among atoms right
holds_among atoms (Or left right) = holds_among atoms left || holds_among atoms right

-- a Boolean on a letter: each holds on Top and none on Bottom (IEEE 1850, Annex B)
abbrev pub holds : Letter → Boolean → Truth
holds Top _ = true
holds Bottom _ = false
holds (Holds atoms) test = holds_among atoms test
