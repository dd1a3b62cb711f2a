-- The formals of a model: the names that it lists as inputs or outputs. A name of both is an input. A name in its `.clock`
-- may be connected too, and nothing comes of it.
use Rattle.std.specs.Prelude.{ℕ, Bool, cond, List, [], ◌∷◌, ◌++◌, map, Option, None, Some}
use Rattle.std.specs.List.{list_any}
use Rattle.std.specs.Str.{bytes_eq}
use Rattle.psl_base.specs.Tokens.{PlacedToken}
use Rattle.blif_model.specs.Files.{Part}
use Rattle.blif_model.specs.Models.{Model, Statement, IsInputs, IsLatch, IsOutputs, IsTable}
pub use Rattle.blif_linking.specs.declared.role.Role.{Role}
pub use Rattle.blif_linking.specs.declared.role.Role.TheVariants.{Input, Output, Clock}

abbrev pub texts_of : List PlacedToken → List (List ℕ)
texts_of words = map (λ word. word.text) words

abbrev pub inputs_in : List Statement → List (List ℕ)
inputs_in [] = []
inputs_in (IsInputs words ∷ statements) = texts_of words ++ inputs_in statements
inputs_in (IsOutputs words ∷ statements) = inputs_in statements
inputs_in (IsLatch latch ∷ statements) = inputs_in statements
inputs_in (IsTable gate ∷ statements) = inputs_in statements

abbrev pub outputs_in : List Statement → List (List ℕ)
outputs_in [] = []
outputs_in (IsInputs words ∷ statements) = outputs_in statements
outputs_in (IsOutputs words ∷ statements) = texts_of words ++ outputs_in statements
outputs_in (IsLatch latch ∷ statements) = outputs_in statements
outputs_in (IsTable gate ∷ statements) = outputs_in statements

abbrev pub is_one_of : List (List ℕ) → List ℕ → Bool
is_one_of names name = list_any (bytes_eq name) names

abbrev pub role_of : Part Model → List ℕ → Option Role
role_of part name =
    cond (is_one_of (inputs_in part.own.statements) name) (Some Input)
    (cond (is_one_of (outputs_in part.own.statements) name) (Some Output)
    (cond (is_one_of (texts_of part.clocks) name) (Some Clock) None))
