-- The names of the instances of a hierarchy.
use Rattle.std.specs.Prelude.{◌≡◌, ℕ, suc, ◌<◌, ◌↔◌, List, [], ◌∷◌}
use Rattle.std.specs.List.{flat_map}
use Rattle.psl_tree.specs.declared.name.Name.{Name}
use Rattle.blif_flattening.specs.Hierarchy.{Path, model_at, IsInstance}
use Rattle.blif_flattening.specs.Instances.{names_of}
use Rattle.blif_flattening.specs.Listing.{instances}
use Rattle.blif_flattening.specs.Members.{Among}
use Rattle.blif_flattening.specs.Trees.{IsName}
use Rattle.blif_flat.specs.Flat.{Models, flat_names, full_text, signal_of, texts_at}
use Rattle.blif_flat.specs.Lines.{mentions_of}

-- the names of an instance are all those of its model, and no others: so an instance tree says of just these
abbrev pub HasAllNames : Models → Type 0
HasAllNames models =
    (path : Path) (name : ℕ) → IsInstance models path
    → (name < names_of models (model_at models path)) ↔ IsName mentions_of models path name

-- the names of an instance, from a number on, each with its signal
abbrev pub all_names_from : Models → Path → ℕ → List (List ℕ) → List Name
all_names_from models path name [] = []
all_names_from models path name (text ∷ texts) =
    record { text = full_text path text; signal = signal_of models path name; left = 0; right = 0 }
    ∷ all_names_from models path (suc name) texts

-- the netlist has all names of all instances: those of the top first, and then instance by instance in flat order
abbrev pub ListsAllNames : Models → List (List (List ℕ)) → Type 0
ListsAllNames models texts =
    flat_names models texts
    ≡ flat_map (λ path. all_names_from models path 0 (texts_at texts (model_at models path))) (instances models)

-- and these are all instances
abbrev pub ListsAllInstances : Models → Type 0
ListsAllInstances models = (path : Path) → IsInstance models path ↔ Among path (instances models)
