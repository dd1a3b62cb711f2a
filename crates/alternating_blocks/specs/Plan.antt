-- What the obligations of an automaton ask, with their Booleans apart.
use Rattle.std.specs.Prelude.{◌≡◌, ◌<◌, ℕ, false, List, ◌++◌, length, slice_index, slice_index_or}
use Rattle.psl_tree.specs.Trees.{Boolean, Not, boolean_of}
use Rattle.psl_tree.specs.declared.atom.Atom.{Atom}
use Rattle.psl_tree.specs.declared.boolean.Bool as code_boolean
use Rattle.alternating_theory.specs.Obligations.{Automaton, obligation_at}
use Rattle.alternating_theory.specs.Positive.{Positive, Const, Holds, Owed, And, Or}
use Rattle.alternating_blocks.specs.Block.{TellsBoolean}
use Rattle.alternating_blocks.specs.declared.plan.Node as code_node
use Rattle.alternating_blocks.specs.declared.plan.Plan.{Plan}

-- the Boolean of a number
abbrev pub test_at : List code_boolean.Bool → ℕ → Boolean
test_at tests number = boolean_of (slice_index_or tests number (code_boolean.Const false))

-- a Boolean without two negations one behind the other
abbrev pub bare : Boolean → Boolean
bare (Not (Not part)) = bare part
bare test = test

-- a combination of such Booleans
abbrev pub bare_positive : Positive → Positive
bare_positive (Const value) = Const value
bare_positive (Holds test) = Holds (bare test)
bare_positive (Owed number) = Owed number
bare_positive (And left right) = And (bare_positive left) (bare_positive right)
bare_positive (Or left right) = Or (bare_positive left) (bare_positive right)

-- the combination that a node stands for
abbrev pub combination_of : List code_boolean.Bool → code_node.Node → Positive
combination_of tests (code_node.Const value) = Const value
combination_of tests (code_node.Holds number) = Holds (test_at tests number)
combination_of tests (code_node.Owed number) = Owed number
combination_of tests (code_node.Both test number) = And (Holds (test_at tests test)) (Owed number)
combination_of tests (code_node.Either test number) = Or (Holds (test_at tests test)) (Owed number)
combination_of tests (code_node.And' _ left _ right) = And (combination_of tests left) (combination_of tests right)
combination_of tests (code_node.Or' _ left _ right) = Or (combination_of tests left) (combination_of tests right)

-- its numbers are those of so many obligations and Booleans
abbrev pub NodeWithin : ℕ → ℕ → code_node.Node → Type 0
NodeWithin count tests (code_node.Const _) = Unit {0}
NodeWithin count tests (code_node.Holds number) = number < tests
NodeWithin count tests (code_node.Owed number) = number < count
NodeWithin count tests (code_node.Both test number) = (test < tests) × (number < count)
NodeWithin count tests (code_node.Either test number) = (test < tests) × (number < count)
NodeWithin count tests (code_node.And' _ left _ right) = NodeWithin count tests left × NodeWithin count tests right
NodeWithin count tests (code_node.Or' _ left _ right) = NodeWithin count tests left × NodeWithin count tests right

-- Booleans with more behind them
abbrev pub IsGrown : List code_boolean.Bool → List code_boolean.Bool → Type 0
IsGrown old new = (more : List code_boolean.Bool) × (new ≡ old ++ more)

-- the number is that of the Boolean
abbrev pub IsNumber : List code_boolean.Bool → ℕ → Boolean → Type 0
IsNumber tests number test = (number < length tests) × (test_at tests number ≡ test)

-- the nodes stand for what the first obligations ask, in bare Booleans
abbrev pub StandFor : Automaton → List code_boolean.Bool → List code_node.Node → Type 0
StandFor automaton tests deltas =
    (number : ℕ) (other : code_node.Node) → number < length deltas
    → (combination_of tests (slice_index_or deltas number other) ≡ bare_positive (obligation_at automaton.obligations number).delta)
    × NodeWithin (length automaton.obligations) (length tests) (slice_index_or deltas number other)

-- there is a node for each obligation, which stands for what it asks
pub record IsPlan (automaton : Automaton) (plan : Plan) : Type 0 where
  pub count : length plan.deltas.items ≡ length automaton.obligations
  pub deltas : StandFor automaton plan.tests.items plan.deltas.items

-- the words tell of each Boolean at which letters it holds
abbrev pub TestsTell : List Atom → List ℕ → List code_boolean.Bool → List ℕ → Type 0
TestsTell atoms columns tests words = (number : ℕ) → number < length tests → TellsBoolean atoms columns (test_at tests number) (slice_index words number)
