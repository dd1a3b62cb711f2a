-- Values worked out by hand: what is known of them, and how they read.
use Rattle.std.specs.Prelude.{◌≡◌, ℕ, Bool as Truth, true, false, List, [], ◌∷◌, ◌++◌, map, Option, None, Some, Ok, codes}
use Rattle.vcd_reader.specs.declared.unknown.Unknown.{Unknown}
use Rattle.vcd_reader.specs.declared.unknown.Unknown.TheVariants.{Zero, One, Refuse}
use Rattle.vcd_reader.specs.Meaning.{reading, unknown_in}
use Rattle.vcd_reader.specs.Sampled.{Sampled, reads_one, says_nothing, bit_of, is_unknown_of}

-- how some letters read, and which are unknown
abbrev pub letters_under : Unknown → List ℕ → List Truth
letters_under unknown letters = map (reads_one unknown) letters

abbrev pub unknown_letters : List ℕ → List Truth
unknown_letters letters = map says_nothing letters

-- the four bits of a signal from the left, and which are unknown
abbrev pub bits_under : Unknown → Option (List ℕ) → List Truth
bits_under unknown value = map (bit_of unknown value) (3 ∷ 2 ∷ 1 ∷ 0 ∷ [])

abbrev pub unknown_bits : Option (List ℕ) → List Truth
unknown_bits value = map (is_unknown_of value) (3 ∷ 2 ∷ 1 ∷ 0 ∷ [])

abbrev pub four : Truth → Truth → Truth → Truth → List Truth
four third second first lowest = third ∷ second ∷ first ∷ lowest ∷ []

-- a recording with a vector that is extended, a block of unknown values, a time that is listed twice, a scalar
-- of a longer signal, and a signal without a value
abbrev pub example : List ℕ
example =
    codes "$var wire 4 ! v $end\n$var wire 1 \" b $end\n$var wire 2 # c $end\n$enddefinitions $end\n"
    ++ codes "#0\nbx1 !\n$dumpoff\nx\"\n$end\n#0\n#7\n1!\n"

abbrev pub example_under : Unknown → Sampled
example_under unknown = record {
  names = record { text = codes "v"; signal = 0; left = 3; right = 0 } ∷ record { text = codes "b"; signal = 1; left = 0; right = 0 } ∷ record { text = codes "c"; signal = 2; left = 1; right = 0 } ∷ [];
  samples = (Some (codes "x1") ∷ Some (codes "x") ∷ None ∷ []) ∷ (Some (codes "1") ∷ Some (codes "x") ∷ None ∷ []) ∷ [];
  times = 0 ∷ 7 ∷ [];
  places = record { line = 5; column = 1 } ∷ record { line = 11; column = 1 } ∷ [];
  unknown = unknown;
}

pub record AreRead : Type 0 where
  -- each of the letters
  pub ones : letters_under Zero (codes "1hH") ≡ true ∷ true ∷ true ∷ []
  pub zeros : letters_under One (codes "0lL") ≡ false ∷ false ∷ false ∷ []
  pub known : unknown_letters (codes "1hH0lL") ≡ false ∷ false ∷ false ∷ false ∷ false ∷ false ∷ []
  pub unknown : unknown_letters (codes "xXzZuUwW-") ≡ true ∷ true ∷ true ∷ true ∷ true ∷ true ∷ true ∷ true ∷ true ∷ []
  pub under_zero : letters_under Zero (codes "xXzZuUwW-") ≡ false ∷ false ∷ false ∷ false ∷ false ∷ false ∷ false ∷ false ∷ false ∷ []
  pub under_one : letters_under One (codes "xXzZuUwW-") ≡ true ∷ true ∷ true ∷ true ∷ true ∷ true ∷ true ∷ true ∷ true ∷ []
  pub refused : letters_under Refuse (codes "xXzZuUwW-") ≡ letters_under Zero (codes "xXzZuUwW-")
  -- what stands to the left of a value
  pub x : (unknown_bits (Some (codes "x1")) ≡ four true true true false) × (bits_under One (Some (codes "x1")) ≡ four true true true true) × (bits_under Zero (Some (codes "x1")) ≡ four false false false true)
  pub z : (unknown_bits (Some (codes "z")) ≡ four true true true true) × (bits_under One (Some (codes "z")) ≡ four true true true true)
  pub one : (unknown_bits (Some (codes "1x")) ≡ four false false false true) × (bits_under One (Some (codes "1x")) ≡ four false false true true)
  pub zero : (unknown_bits (Some (codes "0u1")) ≡ four false false true false) × (bits_under One (Some (codes "0u1")) ≡ four false false true true)
  pub high : (unknown_bits (Some (codes "h0")) ≡ four false false false false) × (bits_under Zero (Some (codes "h0")) ≡ four true true true false)
  pub low : (unknown_bits (Some (codes "L1")) ≡ four false false false false) × (bits_under One (Some (codes "L1")) ≡ four false false false true)
  -- a value never given
  pub none : (unknown_bits None ≡ four true true true true) × (bits_under One None ≡ four true true true true) × (bits_under Zero None ≡ four false false false false)
  -- a whole recording
  pub read : (unknown : Unknown) → reading unknown example ≡ Ok (example_under unknown)
  pub block : (unknown_in example 0 1 0 ≡ true) × (unknown_in example 1 1 0 ≡ true)
  pub vector : (unknown_in example 0 0 0 ≡ false) × (unknown_in example 0 0 3 ≡ true)
  pub scalar : (unknown_in example 1 0 0 ≡ false) × (unknown_in example 1 0 3 ≡ false)
  pub missing : (unknown_in example 0 2 0 ≡ true) × (unknown_in example 1 2 1 ≡ true)
