-- Under which test a combination asks for an obligation: an obligation that stands beside a test in a conjunction is asked
-- for only where the test holds, and beside one in a disjunction only where it does not.
use Rattle.std.specs.Prelude.{ℕ, Bool as Truth, true, false, not, ◌==◌, if◌then◌else◌, List, [], ◌∷◌, ◌++◌}
use Rattle.std.specs.List.{list_any}
use Rattle.psl_tree.specs.Atoms.{AtomsOfBoolean}
use Rattle.psl_tree.specs.Holds.{holds}
use Rattle.psl_tree.specs.Trees as trees
use Rattle.psl_tree.specs.Trees.{Boolean}
use Rattle.psl_tree.specs.declared.atom.Atom.{Atom}
use Rattle.psl_tree.specs.declared.letter.Letter.{Letter}
use Rattle.alternating_theory.specs.Positive.{Positive, Const, Holds, Owed, And, Or}

-- always, or where a test holds, or where it does not
pub data Guard : Type 0 where
  Always : Guard
  If : Boolean → Guard
  IfNot : Boolean → Guard

-- each atom of the test has P
abbrev pub AtomsOfGuard : (Atom → Type 0) → Guard → Type 0
AtomsOfGuard P Always = Unit {0}
AtomsOfGuard P (If test) = AtomsOfBoolean P test
AtomsOfGuard P (IfNot test) = AtomsOfBoolean P test

-- whether a letter allows it
abbrev pub allows : Letter → Guard → Truth
allows letter Always = true
allows letter (If test) = holds letter test
allows letter (IfNot test) = not (holds letter test)

-- beside a test; beside a constant that says nothing, what stood before
abbrev pub if_test : Guard → Boolean → Guard
if_test guard (trees.Const true) = guard
if_test guard (trees.Const false) = If (trees.Const false)
if_test guard (trees.Test atom) = If (trees.Test atom)
if_test guard (trees.Not part) = If (trees.Not part)
if_test guard (trees.And left right) = If (trees.And left right)
if_test guard (trees.Or left right) = If (trees.Or left right)

abbrev pub unless_test : Guard → Boolean → Guard
unless_test guard (trees.Const false) = guard
unless_test guard (trees.Const true) = IfNot (trees.Const true)
unless_test guard (trees.Test atom) = IfNot (trees.Test atom)
unless_test guard (trees.Not part) = IfNot (trees.Not part)
unless_test guard (trees.And left right) = IfNot (trees.And left right)
unless_test guard (trees.Or left right) = IfNot (trees.Or left right)

-- what stands beside another combination in a conjunction, and in a disjunction; a test is used only by what is its
-- nearest neighbour, so that all guards together are no larger than the combination
abbrev pub and_guard : Guard → Positive → Guard
and_guard guard (Const _) = Always
and_guard guard (Holds test) = if_test guard test
and_guard guard (Owed _) = Always
and_guard guard (And _ _) = Always
and_guard guard (Or _ _) = Always

abbrev pub or_guard : Guard → Positive → Guard
or_guard guard (Const _) = Always
or_guard guard (Holds test) = unless_test guard test
or_guard guard (Owed _) = Always
or_guard guard (And _ _) = Always
or_guard guard (Or _ _) = Always

-- the guards of an obligation in a combination that stands under one, one for each time that it stands there
abbrev pub guards : Guard → Positive → ℕ → List Guard
guards guard (Const _) number = []
guards guard (Holds _) number = []
guards guard (Owed other) number = if other == number then guard ∷ [] else []
guards guard (And left right) number =
    guards (and_guard guard right) left number ++ guards (and_guard guard left) right number
guards guard (Or left right) number =
    guards (or_guard guard right) left number ++ guards (or_guard guard left) right number

-- whether a combination asks for an obligation at the next place, on a letter
abbrev pub asks : Letter → Positive → ℕ → Truth
asks letter delta number = list_any (allows letter) (guards Always delta number)
