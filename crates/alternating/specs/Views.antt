-- The program's obligations as plain data.
use Rattle.std.specs.Prelude.{ℕ, List, map, All}
use Rattle.psl_tree.specs.Trees.{boolean_of}
use Rattle.alternating_theory.specs.Obligations.{Obligation}
use Rattle.alternating_theory.specs.Positive.{Positive, Const, Holds, Owed, And, Or, OwesWithin}
use Rattle.alternating.specs.declared.positive.Positive as code_positive
use Rattle.alternating.specs.declared.obligation.Obligation as code_obligation

-- the combination that a tree of the program stands for
abbrev pub positive_of : code_positive.Positive → Positive
positive_of (code_positive.Const value) = Const value
positive_of (code_positive.Holds test) = Holds (boolean_of test)
positive_of (code_positive.Owed number) = Owed number
positive_of (code_positive.And' _ left _ right) = And (positive_of left) (positive_of right)
positive_of (code_positive.Or' _ left _ right) = Or (positive_of left) (positive_of right)

abbrev pub obligation_of : code_obligation.Obligation → Obligation
obligation_of obligation = record {
  delta = positive_of obligation.delta;
  accepting = obligation.accepting;
  end = obligation.end;
  top = obligation.top;
  bottom = obligation.bottom;
}

abbrev pub obligations_of_code : List code_obligation.Obligation → List Obligation
obligations_of_code obligations = map obligation_of obligations

-- each number that is owed is at least low and below high
abbrev pub ObligationsWithin : ℕ → ℕ → List code_obligation.Obligation → Type 0
ObligationsWithin low high obligations = All (λ obligation. OwesWithin low high (positive_of obligation.delta)) obligations
