-- How large the flat netlist of the models of a text may be, and where the lines of each stand.
use Rattle.std.specs.Prelude.{ℕ, List, [], ◌∷◌, ◌++◌, length, map, Option, None, Some}
use Rattle.psl_base.specs.Places.{file_limit}
use Rattle.psl_base.specs.Tokens.{PlacedToken}
use Rattle.blif_hierarchy.specs.declared.cost.Scale.{Scale}
use Rattle.blif_model.specs.Files.{Part}
use Rattle.blif_model.specs.Rules.{signal_limit}
use Rattle.blif_linking.specs.Names.{Parts}

-- where the lines of a model begin: at its name, or with the text where it has none
abbrev pub start_of : Option PlacedToken → ℕ
start_of None = 0
start_of (Some title) = title.at

-- where those of each begin, and where those of the last one end
abbrev pub starts_of : {Own : Type 0} → ℕ → List (Part Own) → List ℕ
starts_of size parts = map (λ part. start_of part.title) parts ++ size ∷ []

-- as many signals as one model may have, and as many instances; and, with each `.subckt` replaced by the lines of its model
-- and a fixed size for each name of an instance, as many bytes as a file may have
abbrev pub scale_of : List ℕ → Parts → Scale
scale_of text parts = record { count = signal_limit; size = file_limit; starts = starts_of (length text) parts }
