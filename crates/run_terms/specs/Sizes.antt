-- How large terms are.
use Rattle.std.specs.Prelude.{ℕ, ◌+◌, List, sum_by}
use Rattle.psl_tree.specs.Counts.{boolean_size}
use Rattle.alternating_theory.specs.Obligations.{Automaton}
use Rattle.alternating_theory.specs.Positive.{Positive, Const, Holds, Owed, And, Or}
use Rattle.gates_theory.specs.Terms.{Term, term_size}
use Rattle.netlist.specs.Design.{marks_of, Design}

-- how many constructors a combination has, those of its Booleans among them
abbrev pub positive_size : Positive → ℕ
positive_size (Const _) = 1
positive_size (Holds test) = boolean_size test + 1
positive_size (Owed _) = 1
positive_size (And left right) = positive_size left + positive_size right + 1
positive_size (Or left right) = positive_size left + positive_size right + 1

-- how many gates terms take
abbrev pub terms_size : List Term → ℕ
terms_size terms = sum_by term_size terms

-- how many constructors the deltas of an automaton have, those of their Booleans among them
abbrev pub constructors : Automaton → ℕ
constructors automaton = sum_by (λ obligation. positive_size obligation.delta) automaton.obligations

-- the signals and marks of a netlist, 64, and the constructors of an automaton together
abbrev pub formula_bulk : Design → Automaton → ℕ
formula_bulk design automaton = (design.signals + marks_of design.tables) + 64 + constructors automaton
