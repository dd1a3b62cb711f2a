-- The drop of a formula ends: where a formula without parts is gone, what still has to be dropped weighs less.
use Rattle.std.proofs.Common.{ℕ, ◌+◌, ◌<◌, ◌≤◌, Option, None, Some, arith}
use Rattle.std.proofs.Math.Nat.{mul-le-mul}
use Rattle.std.specs.Prelude.{IfSome}
use Rattle.psl_tree.specs.Counts.{formula_size}
use Rattle.psl_tree.specs.Dropped.{Waiting, tree_size, waiting_size, weight_of, weight, FirstOf}
use Rattle.psl_tree.specs.Trees.{Formula, formula_of}
use Rattle.psl_tree.specs.Trees.{Now, NowStrong, Weak, Strong, Not, And, Next, Until, Suffix, Abort, SyncAbort, Clocked}
use Rattle.psl_tree.specs.declared.fl.Fl.{Fl}

has-size : (formula : Formula) → 0 < formula_size formula
has-size (Now _) = omega arith
has-size (NowStrong _) = omega arith
has-size (Weak _) = omega arith
has-size (Strong _) = omega arith
has-size (Not _) = omega arith
has-size (And _ _) = omega arith
has-size (Next _) = omega arith
has-size (Until _ _) = omega arith
has-size (Suffix _ _) = omega arith
has-size (Abort _ _) = omega arith
has-size (SyncAbort _ _) = omega arith
has-size (Clocked _ _) = omega arith

-- fewer constructors in all
lighter : (next waiting next' waiting' : ℕ) → next' + waiting' < next + waiting → weight_of next' waiting' < weight_of next waiting
lighter next waiting next' waiting' fewer =
    let more : next' + waiting' + 1 ≤ next + waiting = omega arith in omega (arith, mul-le-mul more more)

pub lighter-first : (tree : Fl) (waiting : Waiting) (left : Option (Fl × Waiting)) → FirstOf waiting left
    → IfSome left (λ l. weight l < weight (tree, waiting))
lighter-first tree waiting None first = tt
lighter-first tree waiting (Some l) first =
    let some = has-size (formula_of tree) in
    lighter (tree_size tree) (waiting_size waiting) (tree_size l.0) (waiting_size l.1) (rw first.1 (omega (arith, first.0, some)))
