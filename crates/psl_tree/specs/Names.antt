-- Names of signals: the indices that they have, and the first one of a signal.
use Rattle.std.specs.Prelude.{◌≡◌, ℕ, ◌+◌, ◌-◌, ◌<◌, ◌==◌, nat_lt, if◌then◌else◌, List, Option, All, Any}
use Rattle.std.specs.List.{find}
use Rattle.psl_tree.specs.declared.atom.Atom.{Atom}
use Rattle.psl_tree.specs.declared.name.Name.{Name}

-- how many indices a name has, from its left one to its right one
abbrev pub indices : Name → ℕ
indices name = (name.left - name.right) + (name.right - name.left) + 1

-- the index that stands for a bit: bits count from the right index on, towards the left one
abbrev pub index_of : Name → ℕ → ℕ
index_of name bit = if nat_lt name.left name.right then name.right - bit else name.right + bit

-- some name has the atom's signal, and each name that has it has the atom's bit
pub record AtomInRange (names : List Name) (atom : Atom) : Type 0 where
  pub named : Any (λ name. name.signal ≡ atom.signal) names
  pub within : All (λ name. name.signal ≡ atom.signal → atom.bit < indices name) names

-- all names of one signal have the same number of indices
abbrev pub AreAlike : List Name → Type 0
AreAlike names = All (λ name. All (λ other. name.signal ≡ other.signal → indices name ≡ indices other) names) names

-- the first name of a signal
abbrev pub first_name : List Name → ℕ → Option Name
first_name names signal = find (λ name. name.signal == signal) names
