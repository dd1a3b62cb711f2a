-- What is always so of what was declared.
use Rattle.std.specs.Prelude.{◌≡◌, ℕ, ◌<◌, ◌≤◌, false, List, length, slice_index_or, All}
use Rattle.psl_tree.specs.declared.name.Name.{Name}
use Rattle.vcd_reader.specs.declared.signal.Signal.{Signal}
use Rattle.vcd_reader.specs.Declarations.{bits_of, bits_most, no_signal}
use Rattle.vcd_reader.specs.Sampled.{indices}

-- the name is that of one of the signals, and has as many indices as that has bits
pub record IsNamed (signals : List Signal) (name : Name) : Type 0 where
  pub within : name.signal < length signals
  pub sized : indices name ≡ (slice_index_or signals name.signal no_signal).size

pub record IsKept (codes : List (List ℕ)) (signals : List Signal) (names : List Name) (bits : ℕ) : Type 0 where
  pub paired : length codes ≡ length signals
  pub counted : bits ≡ bits_of signals
  pub few : bits ≤ bits_most
  pub some : All (λ signal. signal.unread ≡ false → 0 < signal.size) signals
  pub named : All (IsNamed signals) names
