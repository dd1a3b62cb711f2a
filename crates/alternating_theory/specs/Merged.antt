-- Merging: obligations that ask the same, up to the numbers of one class, become one. A class is the
-- number of its first obligation. Any classes may be tried: a test says whether they fit, and where they
-- do not the automaton stays as it is.
use Rattle.std.specs.Prelude.{Bool as Truth, true, false, not, ◌&&◌, ◌==◌, nat_le, if◌then◌else◌, ℕ, zero, suc, List, [], ◌∷◌, ◌++◌, length, map, slice_index_or}
use Rattle.psl_tree.specs.Holds.{is_same_atom}
use Rattle.psl_tree.specs.Trees as trees
use Rattle.psl_tree.specs.Trees.{Boolean}
use Rattle.alternating_theory.specs.Literals.{is_unnegated, bare}
use Rattle.alternating_theory.specs.Obligations.{Obligation, Automaton, obligation_at}
use Rattle.alternating_theory.specs.Positive.{Positive, Const, Holds, Owed, And, Or}
use Rattle.alternating_theory.specs.Trimmed.{count_below, kept, renumbered_obligation}

abbrev pub same_truth : Truth → Truth → Truth
same_truth true second = second
same_truth false second = not second

-- two Booleans are one tree
abbrev pub same_boolean : Boolean → Boolean → Truth
same_boolean (trees.Const value) (trees.Const other) = same_truth value other
same_boolean (trees.Test atom) (trees.Test other) = is_same_atom atom other
same_boolean (trees.Not part) (trees.Not other) = same_boolean part other
same_boolean (trees.And left right) (trees.And first second) = same_boolean left first && same_boolean right second
same_boolean (trees.Or left right) (trees.Or first second) = same_boolean left first && same_boolean right second
same_boolean _ _ = false

-- two Booleans are one tree, but for pairs of Nots at their heads
abbrev pub same_literal : Boolean → Boolean → Truth
same_literal first second = same_truth (is_unnegated first) (is_unnegated second) && same_boolean (bare first) (bare second)

-- two combinations are one tree, but for pairs of Nots at the heads of their Booleans
abbrev pub same_positive : Positive → Positive → Truth
same_positive (Const value) (Const other) = same_truth value other
same_positive (Holds test) (Holds other) = same_literal test other
same_positive (Owed number) (Owed other) = number == other
same_positive (And left right) (And first second) = same_positive right second && same_positive left first
same_positive (Or left right) (Or first second) = same_positive right second && same_positive left first
same_positive _ _ = false

abbrev pub same_obligation : Obligation → Obligation → Truth
same_obligation first second =
    same_truth first.accepting second.accepting
    && (same_truth first.end second.end
    && (same_truth first.top second.top && (same_truth first.bottom second.bottom && same_positive first.delta second.delta)))

-- each number below the bound passes the test
abbrev pub all_below : ℕ → (ℕ → Truth) → Truth
all_below zero test = true
all_below (suc bound) test = test bound && all_below bound test

-- the class of a number is a first obligation, at most the number itself, that asks the same up to classes
abbrev pub fits_at : List Obligation → (ℕ → ℕ) → ℕ → Truth
fits_at obligations class number =
    nat_le (class number) number
    && ((class (class number) == class number)
    && same_obligation (renumbered_obligation class (obligation_at obligations (class number))) (renumbered_obligation class (obligation_at obligations number)))

-- so it is of each obligation, and the start stays apart
abbrev pub fits : Automaton → (ℕ → ℕ) → Truth
fits automaton class = (class automaton.start == automaton.start) && all_below (length automaton.obligations) (fits_at automaton.obligations class)

-- the number is the first of its class
abbrev pub is_first : (ℕ → ℕ) → ℕ → Truth
is_first class number = class number == number

-- the first obligation of each class, in order; the others' numbers become theirs
abbrev pub joined : Automaton → (ℕ → ℕ) → Automaton
joined automaton class = record {
  start = count_below automaton.start (is_first class);
  obligations = map (λ obligation. renumbered_obligation (λ number. count_below (class number) (is_first class)) obligation)
      (kept (is_first class) automaton.obligations);
}

-- the automaton merged by these classes, where they fit
abbrev pub merged_by : (ℕ → ℕ) → Automaton → Automaton
merged_by class automaton = if fits automaton class then joined automaton class else automaton

-- the class of a number, where the first numbers have these classes; a further number is its own
abbrev pub class_in : List ℕ → ℕ → ℕ
class_in classes number = slice_index_or classes number number

-- the first of so many numbers, from a number on, that passes the test; the number behind them where none does
abbrev pub first_from : ℕ → ℕ → (ℕ → Truth) → ℕ
first_from number zero test = number
first_from number (suc count) test = if test number then number else first_from (suc number) count test

-- the classes, if a number had this one
abbrev pub supposed : (ℕ → ℕ) → ℕ → ℕ → ℕ → ℕ
supposed class number first other = if other == number then first else class other

-- the obligation of a number is the first of its class, and that of a later number asks the same, up to
-- classes, if it is of that class: what an obligation owes of itself counts as the same
abbrev pub is_like : List Obligation → (ℕ → ℕ) → ℕ → ℕ → Truth
is_like obligations class first number =
    (class first == first)
    && same_obligation (renumbered_obligation (supposed class number first) (obligation_at obligations first))
    (renumbered_obligation (supposed class number first) (obligation_at obligations number))

-- the classes of so many obligations: each becomes one with the first before it that asks the same, once
-- those before it have become one and these two are supposed to be one
abbrev pub classes_upto : List Obligation → ℕ → List ℕ
classes_upto obligations zero = []
classes_upto obligations (suc count) =
    classes_upto obligations count ++ first_from 0 count (λ number. is_like obligations (class_in (classes_upto obligations count)) number count) ∷ []

-- the automaton with these classes; its start, the last, stays apart
abbrev pub merged : Automaton → Automaton
merged automaton = merged_by (class_in (classes_upto automaton.obligations automaton.start)) automaton
