-- Bits that are too large before the last are too large with it.
use Rattle.std.proofs.Common.{◌≡◌, ℕ, ◌+◌, ◌-◌, ◌<◌, ◌≤◌, subst, arith}
use Rattle.std.proofs.lemmas.Grind.{common_steps}
use Rattle.psl_tree.specs.Counts.{boolean_size}
use Rattle.psl_tree.specs.Trees.{Boolean}
use Rattle.psl_sugar.specs.Booleans.{conjunction_of}
use Rattle.psl_sugar.specs.Comparisons.{compared_width, same_bit, equality_from}
use Rattle.psl_sugar.specs.declared.operand.Operand.{Operand}
use Rattle.psl_sugar.proofs.Sizes.{conjunction_within}
use Rattle.psl_sugar.proofs.boolean.MeasuredBool.equality.Goals as goal

fits_before : (left right : Operand) (leftmost more last : ℕ) → more < leftmost → leftmost ≡ last →
    boolean_size (conjunction_of (λ (m : ℕ). same_bit left right (leftmost - m)) more) + boolean_size (same_bit left right (leftmost - (more + 1))) + 1 ≤ boolean_size (equality_from left right last)
fits_before left right leftmost more last below same =
    let part : ℕ → Boolean = λ (m : ℕ). same_bit left right (leftmost - m) in
    subst (λ (n : ℕ). boolean_size (conjunction_of part more) + boolean_size (part (more + 1)) + 1 ≤ boolean_size (equality_from left right n)) same
    (conjunction_within part more leftmost below)

pub returns-in_err-all-2 : goal.returns-in_err-all-2
returns-in_err-all-2 c =
    let last = compared_width c.args.left.now c.args.right.now - 1 in
    let same : c.saturating_sub-leftmost.result ≡ last = omega arith in
    let fits = fits_before c.args.left.now c.args.right.now c.saturating_sub-leftmost.result c.loop-more.more last (omega arith) same in
    grind (arith, common_steps)
