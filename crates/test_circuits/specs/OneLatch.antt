-- A worked example: a model with a latch from its first name to its second, and nothing else.
use Rattle.std.specs.Prelude.{ℕ, List, [], ◌∷◌, codes}
use Rattle.blif_flattening.specs.declared.model.Item.TheVariants.{Own}
use Rattle.blif_flattening.specs.declared.model.Model.{Model}
use Rattle.netlist.specs.declared.latch.Init.TheVariants as inits
use Rattle.blif_model.specs.declared.line.LineKind.TheVariants as kinds
use Rattle.blif_model.specs.declared.line.ModelLine.{ModelLine}

abbrev pub latch_line : ModelLine
latch_line = record { mentions = 0 ∷ 1 ∷ []; kind = kinds.Latch inits.Zero }

abbrev pub worked : List (Model ModelLine)
worked = record { names = 2; items = Own latch_line ∷ [] } ∷ []

-- and the names of the model
abbrev pub worked_texts : List (List (List ℕ))
worked_texts = (codes "n" ∷ codes "q" ∷ []) ∷ []
