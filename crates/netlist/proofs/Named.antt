-- Names of signals of one bit have as many indices.
use Rattle.std.proofs.Common.{◌≡◌, refl, ℕ, List}
use Rattle.std.specs.Prelude.{All}
use Rattle.psl_tree.specs.Names.{AreAlike, indices}
use Rattle.psl_tree.specs.declared.name.Name.{Name}
use Rattle.netlist.specs.Sound.{NamesBit}

one-index : (signals : ℕ) (name other : Name) → NamesBit signals name → NamesBit signals other → indices name ≡ indices other
one-index signals name other one two = rw (one.left, one.right, two.left, two.right) refl

pub all-alike : (signals : ℕ) (names : List Name) → All (NamesBit signals) names → AreAlike names
all-alike signals names are k d lt j e less same = one-index signals _ _ (are k d lt) (are j e less)
