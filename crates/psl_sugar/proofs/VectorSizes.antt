-- Vectors, and comparisons of vectors, have as many constructors as bits.
use Rattle.std.proofs.Common.{ℕ, zero, suc, ◌+◌, ◌-◌, ◌≤◌, List, length, arith}
use Rattle.psl_tree.specs.Trees.{Boolean, Const, Test, Not, And, Or}
use Rattle.psl_tree.specs.Counts.{boolean_size}
use Rattle.psl_sugar.specs.Booleans.{conjunction_of, disjunction_of, bit_of, some_bit}
use Rattle.psl_sugar.specs.Comparisons.{compared_width, same_bit, equality, less_within, less}
use Rattle.psl_sugar.specs.declared.vector.Bit.{Bit}
use Rattle.psl_sugar.specs.declared.operand.Operand.{Operand}

boolean_is_some : (test : Boolean) → 1 ≤ boolean_size test
boolean_is_some (Const value) = omega arith
boolean_is_some (Test atom) = omega arith
boolean_is_some (Not part) = omega arith
boolean_is_some (And left right) = omega arith
boolean_is_some (Or left right) = omega arith

conjunction_size : (part : ℕ → Boolean) (more : ℕ) → more + 1 ≤ boolean_size (conjunction_of part more)
conjunction_size part zero = boolean_is_some (part 0)
conjunction_size part (suc more) = omega (arith, conjunction_size part more, boolean_is_some (part (suc more)))

disjunction_size : (part : ℕ → Boolean) (more : ℕ) → more + 1 ≤ boolean_size (disjunction_of part more)
disjunction_size part zero = boolean_is_some (part 0)
disjunction_size part (suc more) = omega (arith, disjunction_size part more, boolean_is_some (part (suc more)))

pub equality_size : (left right : Operand) → compared_width left right ≤ boolean_size (equality left right)
equality_size left right =
    let leftmost = compared_width left right - 1 in
    omega (arith, conjunction_size (λ (more : ℕ). same_bit left right (leftmost - more)) leftmost)

less_within_size : (left right : Operand) (places : ℕ) → places ≤ boolean_size (less_within left right places)
less_within_size left right zero = omega arith
less_within_size left right (suc places) = omega (arith, less_within_size left right places)

pub less_size : (left right : Operand) → compared_width left right ≤ boolean_size (less left right)
less_size left right = less_within_size left right (compared_width left right)

pub some_bit_size : (vector : List Bit) → length vector ≤ boolean_size (some_bit vector)
some_bit_size vector = omega (arith, disjunction_size (bit_of vector) (length vector - 1))
