-- The bits of a position of a run, from a base on: whether there is a valuation before, that valuation by signal, and
-- the valuation by signal. Where there is none before, the bits of the one before are not asked anything. Bits are
-- variables, counted from 1; signals are counted from 0.
use Rattle.std.specs.Prelude.{◌≡◌, ℕ, suc, ◌+◌, ◌<◌, ℤ, pos, Bool as Truth, false, cond, List, ◌∷◌, ◌++◌, length, map, replicate, Option, None, Some, is_some}
use Rattle.std.specs.List.{range_with_len}
use Rattle.clauses.specs.Models.{Assignment, is_true}
use Rattle.netlist.specs.Valuations.{bit}

-- there is a valuation before
abbrev pub had : ℕ → ℤ
had base = pos (suc base)

-- the value of a signal in the valuation before
abbrev pub earlier : ℕ → ℕ → ℤ
earlier base signal = pos (suc (base + 1 + signal))

-- the value of a signal in the valuation, where there are so many signals
abbrev pub current : ℕ → ℕ → ℕ → ℤ
current signals base signal = pos (suc (base + 1 + signals + signal))

-- how many bits these are
abbrev pub position_width : ℕ → ℕ
position_width signals = 1 + signals + signals

-- the bits from a base on are those of a valuation, and of the one before it if there is one
pub record IsPosition (signals base : ℕ) (values : Assignment) (before : Option (List Truth)) (valuation : List Truth) : Type 0 where
  pub preceded : is_true values (had base) ≡ is_some before
  pub bits_before : (previous : List Truth) → before ≡ Some previous → (signal : ℕ) → signal < signals
      → is_true values (earlier base signal) ≡ bit previous signal
  pub bits : (signal : ℕ) → signal < signals → is_true values (current signals base signal) ≡ bit valuation signal

-- each of two valuations has a value for each signal
pub record HasSizes (signals : ℕ) (before : Option (List Truth)) (valuation : List Truth) : Type 0 where
  pub size_before : (previous : List Truth) → before ≡ Some previous → length previous ≡ signals
  pub size : length valuation ≡ signals

-- the valuation that bits from a base on are those of, and the one before it
abbrev pub valuation_of : ℕ → ℕ → Assignment → List Truth
valuation_of signals base values = map (λ signal. is_true values (current signals base signal)) (range_with_len 0 signals)

abbrev pub before_of : ℕ → ℕ → Assignment → Option (List Truth)
before_of signals base values =
    cond (is_true values (had base))
    (Some (map (λ signal. is_true values (earlier base signal)) (range_with_len 0 signals))) None

-- the bits of a valuation and of the one before it; those of the one before are false where there is none
abbrev pub earlier_bits : ℕ → Option (List Truth) → List Truth
earlier_bits signals None = replicate signals false
earlier_bits signals (Some before) = before

abbrev pub position_bits : ℕ → Option (List Truth) → List Truth → List Truth
position_bits signals before valuation = is_some before ∷ earlier_bits signals before ++ valuation
