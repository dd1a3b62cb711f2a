-- The lines of a recording's body: times, and values of signals of one bit (IEEE 1364, clause 18.2.3).
use Rattle.std.specs.Prelude.{ℕ, Bool, true, false, List, [], ◌∷◌, ◌++◌, map, Option, Some, decimal}
use Rattle.std.specs.List.{flat_map, range_with_len}

-- a line and its end
abbrev pub line : List ℕ → List ℕ
line text = text ++ 10 ∷ []

-- a value as a digit
abbrev pub digit : Bool → ℕ
digit false = 48
digit true = 49

-- the lines of values, each with the code of its signal
abbrev pub value_lines : List (List ℕ) → List Bool → List ℕ
value_lines (code ∷ codes) (value ∷ values) = line (digit value ∷ code) ++ value_lines codes values
value_lines _ _ = []

-- the lines of a sample: its time, and the values of the signals
abbrev pub sample_lines : List (List ℕ) → ℕ → List Bool → List ℕ
sample_lines codes time values = line (35 ∷ decimal time) ++ value_lines codes values

-- the lines of so many samples from one on, whose times are their numbers
abbrev pub samples_from : List (List ℕ) → (ℕ → List Bool) → ℕ → ℕ → List ℕ
samples_from codes values first count = flat_map (λ sample. sample_lines codes sample (values sample)) (range_with_len first count)

-- the values of a sample, each as the letters that a recording has for it
abbrev pub letters_of : List Bool → List (Option (List ℕ))
letters_of values = map (λ value. Some (digit value ∷ [])) values
