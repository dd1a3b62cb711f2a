-- Positive combinations as terms: their values, literals and sizes.
use Rattle.std.proofs.Common.{◌≡◌, ℕ, ◌+◌, ◌*◌, ◌<◌, ◌≤◌, Bool, List, Option, refl, ◌∙◌, arith, mul-le-mul_right}
use Rattle.std.specs.Prelude.{All}
use Rattle.std.specs.Bool.{IsTrue}
use Rattle.std.proofs.Math.Nat.{mul-one}
use Rattle.alternating_theory.specs.Atoms.{AtomsOfPositive}
use Rattle.alternating_theory.specs.Positive.{Positive, Const, Holds, Owed, And, Or, OwesWithin, met}
use Rattle.clauses.specs.Models.{Assignment}
use Rattle.gates_theory.specs.Terms.{Term, value, term_within, term_size}
use Rattle.netlist.specs.Sound.{NamesBit}
use Rattle.psl_tree.specs.Counts.{boolean_size}
use Rattle.psl_tree.specs.Names.{AtomInRange}
use Rattle.psl_tree.specs.declared.name.Name.{Name}
use Rattle.run_terms.specs.Combinations.{positive_term}
use Rattle.run_terms.specs.Letters.{letter_after}
use Rattle.run_terms.specs.Positions.{position_width, IsPosition}
use Rattle.run_terms.specs.Sizes.{positive_size}
use Rattle.run_terms.proofs.BooleanValues.{boolean-value, boolean-within, boolean-gates, constant-size}
use Rattle.run_terms.proofs.Logic.{either-value, constant-value, constant-within, both_within}

-- a combination's term says whether the letter meets it with the values of the owed terms
pub positive-value : (signals base : ℕ) (names : List Name) (values : Assignment) (before : Option (List Bool)) (valuation : List Bool) (owed : ℕ → Term) (positive : Positive)
    → All (NamesBit signals) names → AtomsOfPositive (AtomInRange names) positive → IsPosition signals base values before valuation
    → value values (positive_term signals base owed positive) ≡ met positive (letter_after names before valuation) (λ number. value values (owed number))
positive-value signals base names values before valuation owed (Const truth) named in_range is = constant-value values truth
positive-value signals base names values before valuation owed (Holds test) named in_range is = boolean-value signals base names values before valuation test named in_range is
positive-value signals base names values before valuation owed (Owed number) named in_range is = refl
positive-value signals base names values before valuation owed (And left right) named in_range is =
    let a = positive-value signals base names values before valuation owed left named in_range.0 is in
    let b = positive-value signals base names values before valuation owed right named in_range.1 is in
    rw (a, b) refl
positive-value signals base names values before valuation owed (Or left right) named in_range is =
    let a = positive-value signals base names values before valuation owed left named in_range.0 is in
    let b = positive-value signals base names values before valuation owed right named in_range.1 is in
    either-value values (positive_term signals base owed left) (positive_term signals base owed right) ∙ rw (a, b) refl

pub positive-within : (signals base variables count : ℕ) (names : List Name) (owed : ℕ → Term) (positive : Positive)
    → All (NamesBit signals) names → AtomsOfPositive (AtomInRange names) positive → OwesWithin 0 count positive → base + position_width signals ≤ variables
    → ((number : ℕ) → number < count → IsTrue (term_within variables (owed number))) → IsTrue (term_within variables (positive_term signals base owed positive))
positive-within signals base variables count names owed (Const truth) named in_range owes fits each = constant-within variables truth (omega arith)
positive-within signals base variables count names owed (Holds test) named in_range owes fits each = boolean-within signals base variables names test named in_range fits
positive-within signals base variables count names owed (Owed number) named in_range owes fits each = each number owes.1
positive-within signals base variables count names owed (And left right) named in_range owes fits each =
    both_within variables (positive_term signals base owed left) (positive_term signals base owed right)
    (positive-within signals base variables count names owed left named in_range.0 owes.0 fits each)
    (positive-within signals base variables count names owed right named in_range.1 owes.1 fits each)
positive-within signals base variables count names owed (Or left right) named in_range owes fits each =
    both_within variables (positive_term signals base owed left) (positive_term signals base owed right)
    (positive-within signals base variables count names owed left named in_range.0 owes.0 fits each)
    (positive-within signals base variables count names owed right named in_range.1 owes.1 fits each)

two_most : (most : ℕ) → 2 ≤ 2 + most
two_most most = omega arith

sums : (factor a b : ℕ) → factor * (a + b + 1) ≡ factor * a + factor * b + factor
sums factor a b = grind arith

-- at most two gates for each constructor, and what an owed term takes
pub positive-gates : (signals base count most : ℕ) (owed : ℕ → Term) (positive : Positive) → OwesWithin 0 count positive
    → ((number : ℕ) → number < count → term_size (owed number) ≤ most) → term_size (positive_term signals base owed positive) ≤ (2 + most) * positive_size positive
positive-gates signals base count most owed (Const truth) owes each = omega (arith, constant-size truth, mul-one (2 + most))
positive-gates signals base count most owed (Holds test) owes each =
    omega (arith, boolean-gates signals base test, mul-le-mul_right (boolean_size test + 1) (two_most most))
positive-gates signals base count most owed (Owed number) owes each = omega (arith, each number owes.1, mul-one (2 + most))
positive-gates signals base count most owed (And left right) owes each =
    omega (
      arith,
      positive-gates signals base count most owed left owes.0 each,
      positive-gates signals base count most owed right owes.1 each,
      sums (2 + most) (positive_size left) (positive_size right),
    )
positive-gates signals base count most owed (Or left right) owes each =
    omega (
      arith,
      positive-gates signals base count most owed left owes.0 each,
      positive-gates signals base count most owed right owes.1 each,
      sums (2 + most) (positive_size left) (positive_size right),
    )
