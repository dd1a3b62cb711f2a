-- The signals that an automaton tests.
use Rattle.std.specs.Prelude.{ℕ, List, [], ◌∷◌, ◌++◌}
use Rattle.std.specs.List.{flat_map}
use Rattle.alternating_theory.specs.Obligations.{Automaton}
use Rattle.alternating_theory.specs.Positive as positives
use Rattle.alternating_theory.specs.Positive.{Positive}
use Rattle.psl_tree.specs.Trees as trees
use Rattle.psl_tree.specs.Trees.{Boolean}

-- the signals of a Boolean's atoms, from left to right
abbrev pub signals_of_boolean : Boolean → List ℕ
signals_of_boolean (trees.Const value) = []
signals_of_boolean (trees.Test atom) = atom.signal ∷ []
signals_of_boolean (trees.Not part) = signals_of_boolean part
signals_of_boolean (trees.And left right) = signals_of_boolean left ++ signals_of_boolean right
signals_of_boolean (trees.Or left right) = signals_of_boolean left ++ signals_of_boolean right

-- those of a combination
abbrev pub signals_of_positive : Positive → List ℕ
signals_of_positive (positives.Const value) = []
signals_of_positive (positives.Holds test) = signals_of_boolean test
signals_of_positive (positives.Owed number) = []
signals_of_positive (positives.And left right) = signals_of_positive left ++ signals_of_positive right
signals_of_positive (positives.Or left right) = signals_of_positive left ++ signals_of_positive right

-- and those of all obligations
abbrev pub signals_of : Automaton → List ℕ
signals_of automaton = flat_map (λ obligation. signals_of_positive obligation.delta) automaton.obligations
