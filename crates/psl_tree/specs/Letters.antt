-- The letters that values of bits stand for: what can be asked of the bits of names, and what holds of it at a
-- sample.
use Rattle.std.specs.Prelude.{ℕ, ◌-◌, nat_lt, Bool as Truth, not, ◌&&◌, List, [], ◌∷◌, filter}
use Rattle.std.specs.List.{range_with_len, flat_map}
use Rattle.psl_tree.specs.declared.atom.Atom.{Atom}
use Rattle.psl_tree.specs.declared.atom.Edge.{Edge}
use Rattle.psl_tree.specs.declared.atom.Edge.TheVariants.{Value, Rise, Fall}
use Rattle.psl_tree.specs.declared.letter.Letter.{Letter}
use Rattle.psl_tree.specs.declared.letter.Letter.TheVariants.{Holds}
use Rattle.psl_tree.specs.declared.name.Name.{Name}
use Rattle.psl_tree.specs.Names.{indices}

-- whether a bit of a signal is 1 at a sample: the sample, the signal, and the bit, each counted from 0
abbrev pub Bits : Type 0
Bits = ℕ → ℕ → ℕ → Truth

-- whether the bit is 1, or went from 0 to 1, or from 1 to 0; at the first sample no bit went anywhere
abbrev pub edge_at : Edge → Bits → ℕ → ℕ → ℕ → Truth
edge_at Value bits sample signal bit = bits sample signal bit
edge_at Rise bits sample signal bit = nat_lt 0 sample && (not (bits (sample - 1) signal bit) && bits sample signal bit)
edge_at Fall bits sample signal bit = nat_lt 0 sample && (bits (sample - 1) signal bit && not (bits sample signal bit))

-- whether an atom holds at a sample
abbrev pub atom_at : Bits → ℕ → Atom → Truth
atom_at bits sample atom = edge_at atom.edge bits sample atom.signal atom.bit

-- what can be asked of a bit
abbrev pub atoms_of_bit : ℕ → ℕ → List Atom
atoms_of_bit signal bit =
    record { signal = signal; bit = bit; edge = Value } ∷ record { signal = signal; bit = bit; edge = Rise } ∷ record { signal = signal; bit = bit; edge = Fall } ∷ []

-- what can be asked of the bits of a name
abbrev pub atoms_of_name : Name → List Atom
atoms_of_name name = flat_map (atoms_of_bit name.signal) (range_with_len 0 (indices name))

-- all atoms of the names
abbrev pub atoms_of : List Name → List Atom
atoms_of names = flat_map atoms_of_name names

-- the letter of a sample: the atoms of the names that hold there
abbrev pub letter_at : Bits → List Name → ℕ → Letter
letter_at bits names sample = Holds (filter (atom_at bits sample) (atoms_of names))
