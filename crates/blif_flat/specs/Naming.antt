-- The names of instances as they are listed: of each name its text, with the placements that lead to its instance before
-- it, and the number of its signal.
use Rattle.std.specs.Prelude.{ℕ, ◌+◌, List, [], ◌∷◌, ◌++◌, decimal, Option, None, Some}
use Rattle.std.specs.List.{flat_map}
use Rattle.psl_tree.specs.declared.name.Name.{Name}
use Rattle.blif_flattening.specs.declared.listing.FlatInstance.{FlatInstance}
use Rattle.blif_flattening.specs.Hierarchy.{Path}
use Rattle.blif_flat.specs.Flat.{texts_at}

-- a placement: `u1.`
abbrev pub step_of : ℕ → List ℕ
step_of k = 117 ∷ decimal (k + 1) ++ 46 ∷ []

-- the placements that lead to an instance, the first one first: `u1.u2.`
abbrev pub prefix_of : Path → List ℕ
prefix_of [] = []
prefix_of (k ∷ path) = prefix_of path ++ step_of k

-- a name, where it is a signal
abbrev pub name_with : List ℕ → Option ℕ → List ℕ → List Name
name_with prefix None text = []
name_with prefix (Some signal) text = record { text = prefix ++ text; signal = signal; left = 0; right = 0 } ∷ []

-- the names that are signals, which have these numbers
abbrev pub names_with : List ℕ → List (Option ℕ) → List (List ℕ) → List Name
names_with prefix numbers [] = []
names_with prefix [] (text ∷ texts) = []
names_with prefix (number ∷ numbers) (text ∷ texts) = name_with prefix number text ++ names_with prefix numbers texts

-- the names of instances, where each model has these texts as names
abbrev pub names_in : List (List (List ℕ)) → List FlatInstance → List Name
names_in texts instances =
    flat_map (λ (instance : FlatInstance). names_with (prefix_of instance.path) instance.numbers (texts_at texts instance.model)) instances
