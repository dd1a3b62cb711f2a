-- States as lists of bits: what clauses and cubes say of one.
use Rattle.std.specs.Prelude.{ℕ, zero, suc, ◌-◌, ℤ, Bool as Truth, true, false, List, [], ◌∷◌, ◌++◌, map, slice_index_or, count_by}
use Rattle.std.specs.List.{list_all}
use Rattle.clauses.specs.Models.{Assignment, is_true, meets}

-- a state as an assignment: the variable n, counted from 1, is its bit n - 1, and false outside
abbrev pub values_of : List Truth → Assignment
values_of state variable = slice_index_or state (variable - 1) false

-- a state meets clauses: it makes a literal of each of them true
abbrev pub is_met : List (List ℤ) → List Truth → Truth
is_met clauses state = list_all (meets (values_of state)) clauses

-- a state is in a cube: it makes each of its literals true
abbrev pub is_in_cube : List ℤ → List Truth → Truth
is_in_cube cube state = list_all (is_true (values_of state)) cube

-- every list of so many bits
unfoldable pub all_bits : ℕ → List (List Truth)
all_bits zero = [] ∷ []
all_bits (suc width) = map (λ bits. false ∷ bits) (all_bits width) ++ map (λ bits. true ∷ bits) (all_bits width)

-- how many states of a width meet clauses
unfoldable pub left : ℕ → List (List ℤ) → ℕ
left width clauses = count_by (is_met clauses) (all_bits width)
