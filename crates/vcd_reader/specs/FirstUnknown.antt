-- The first sample at which a bit is unknown that directives test.
use Rattle.std.specs.Prelude.{◌≡◌, ℕ, zero, suc, ◌<◌, nat_lt, Bool, true, false, cond, List, [], ◌∷◌, length, Option, None, Some}
use Rattle.std.specs.List.{list_any}
use Rattle.psl_tree.specs.declared.atom.Atom.{Atom}
use Rattle.psl_tree.specs.declared.directive.Directive.{Directive}
use Rattle.vcd_reader.specs.Sampled.{Sampled, unknown_at}
use Rattle.vcd_reader.specs.Tested.{atoms_tested}

-- the bit that an atom asks for, as a value or as an edge, is unknown at a sample
abbrev pub is_unknown_for : Sampled → ℕ → Atom → Bool
is_unknown_for recording sample atom = unknown_at recording sample atom.signal atom.bit

-- some bit that the formulas of the directives test is unknown at a sample
abbrev pub tests_unknown : Sampled → List Directive → ℕ → Bool
tests_unknown recording directives sample = list_any (is_unknown_for recording sample) (atoms_tested directives)

-- the first such sample, or that there is none
abbrev pub IsFirstUnknown : Sampled → List Directive → Option ℕ → Type 0
IsFirstUnknown recording directives None = (sample : ℕ) → sample < length recording.samples → tests_unknown recording directives sample ≡ false
IsFirstUnknown recording directives (Some first) =
    (first < length recording.samples) × (tests_unknown recording directives first ≡ true)
    × ((sample : ℕ) → sample < first → tests_unknown recording directives sample ≡ false)

-- what the code is proved against: the first number below a bound that passes a test, or the bound
abbrev pub first_below : (ℕ → Bool) → ℕ → ℕ
first_below test zero = zero
first_below test (suc n) = cond (nat_lt (first_below test n) n) (first_below test n) (cond (test n) n (suc n))

-- the first sample below a bound at which the bit of some atom is unknown, or the bound
abbrev pub earliest : Sampled → List Atom → ℕ → ℕ
earliest recording [] until = until
earliest recording (atom ∷ atoms) until = earliest recording atoms (first_below (λ sample. is_unknown_for recording sample atom) until)
