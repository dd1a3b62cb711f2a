-- What the drop of a formula still has to do: a formula, and one that waits until that is done.
use Rattle.std.specs.Prelude.{◌≡◌, ◌≤◌, ℕ, ◌+◌, ◌*◌, Option, None, Some, Box}
use Rattle.std.specs.declared.alloc.Global.{Global}
use Rattle.psl_tree.specs.Trees.{formula_of}
use Rattle.psl_tree.specs.Counts.{formula_size}
use Rattle.psl_tree.specs.declared.fl.Fl.{Fl}

abbrev pub Waiting : Type 0
Waiting = Option (Box Fl Global)

-- the constructors of a formula
abbrev pub tree_size : Fl → ℕ
tree_size tree = formula_size (formula_of tree)

-- those of the formula that waits, if one does
abbrev pub waiting_size : Waiting → ℕ
waiting_size None = 0
waiting_size (Some box) = tree_size box.value

-- the square of the constructors of both, and those of the formula that is next
abbrev pub weight_of : ℕ → ℕ → ℕ
weight_of next waiting = (next + waiting) * (next + waiting) + next

-- how much there is to do, by which the drop is seen to end
abbrev pub weight : Fl × Waiting → ℕ
weight left = weight_of (tree_size left.0) (waiting_size left.1)

-- what waits is next, and nothing waits any more
abbrev pub FirstOf : Waiting → Option (Fl × Waiting) → Type 0
FirstOf waiting None = waiting ≡ None
FirstOf waiting (Some next) = (tree_size next.0 ≡ waiting_size waiting) × (next.1 ≡ None)

-- the left part is next; the right part waits, and what waited behind it
pub record LeftFirst (left right : Box Fl Global) (waiting : Waiting) (next : Fl × Waiting) : Type 0 where
  pub part : tree_size next.0 ≡ tree_size left.value
  pub others : waiting_size next.1 ≤ tree_size right.value + waiting_size waiting + 1
