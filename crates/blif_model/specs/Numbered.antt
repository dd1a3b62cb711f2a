-- A model with numbers in place of its names: each name is its place among the names in the order of their first
-- mention.
use Rattle.std.specs.Prelude.{ℕ, List, [], ◌∷◌, ◌++◌, map, length}
use Rattle.psl_base.specs.Tokens.{PlacedToken}
use Rattle.blif_flattening.specs.declared.model.Item.{Item}
use Rattle.blif_flattening.specs.declared.model.Item.TheVariants.{Own}
use Rattle.blif_model.specs.declared.line.LineKind.{LineKind}
use Rattle.blif_model.specs.declared.line.LineKind.TheVariants as kinds
use Rattle.blif_model.specs.declared.line.ModelLine.{ModelLine}
use Rattle.blif_model.specs.declared.text.ModelText.{ModelText}
use Rattle.blif_model.specs.Models.{Model, Statement, IsInputs, IsOutputs, IsLatch, IsTable, names_of}
use Rattle.blif_model.specs.Names.{number_of}

-- the words that a statement mentions, in order
abbrev pub words_in : Statement → List PlacedToken
words_in (IsInputs words) = words
words_in (IsOutputs words) = words
words_in (IsLatch latch) = latch.input ∷ latch.output ∷ []
words_in (IsTable gate) = gate.inputs ++ gate.output ∷ []

-- what a statement says of them
abbrev pub kind_of : Statement → LineKind
kind_of (IsInputs words) = kinds.Inputs
kind_of (IsOutputs words) = kinds.Outputs
kind_of (IsLatch latch) = kinds.Latch latch.init
kind_of (IsTable gate) = kinds.Table (record { rows = gate.rows; value = gate.value; output_at = gate.output.at })

-- a statement by the numbers of its words
abbrev pub line_of : List (List ℕ) → Statement → ModelLine
line_of names statement = record { mentions = map (number_of names) (words_in statement); kind = kind_of statement }

abbrev pub items_of : List (List ℕ) → List Statement → List (Item ModelLine)
items_of names statements = map (λ statement. Own (line_of names statement)) statements

-- the names of a model, and the model by their numbers
abbrev pub numbered : Model → ModelText
numbered model =
    let names = names_of model.mentions in
    record { names = names; model = record { names = length names; items = items_of names model.statements } }
