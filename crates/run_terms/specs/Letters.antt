-- The letter of a valuation that follows another one, or none.
use Rattle.std.specs.Prelude.{ℕ, zero, suc, Bool as Truth, List, Option, None, Some}
use Rattle.psl_tree.specs.Letters.{Bits, letter_at}
use Rattle.psl_tree.specs.declared.letter.Letter.{Letter}
use Rattle.psl_tree.specs.declared.name.Name.{Name}
use Rattle.netlist.specs.Runs.{valuation_at}
use Rattle.netlist.specs.Valuations.{bit}
use Rattle.netlist.specs.declared.run.Run.{Run}

-- the values of signals at two samples, of which the second has the valuation, or at one if none is before; a signal has
-- one bit
abbrev pub bits_after : Option (List Truth) → List Truth → Bits
bits_after None valuation sample signal _ = bit valuation signal
bits_after (Some before) valuation zero signal _ = bit before signal
bits_after (Some before) valuation (suc _) signal _ = bit valuation signal

-- the sample of the valuation
abbrev pub sample_after : Option (List Truth) → ℕ
sample_after None = 0
sample_after (Some _) = 1

-- the letter of a valuation: the atoms of the names that hold; no bit went anywhere where none is before
abbrev pub letter_after : List Name → Option (List Truth) → List Truth → Letter
letter_after names before valuation = letter_at (bits_after before valuation) names (sample_after before)

-- the valuation before a place of a run
abbrev pub before_at : Run → ℕ → Option (List Truth)
before_at run zero = None
before_at run (suc place) = Some (valuation_at run place)
