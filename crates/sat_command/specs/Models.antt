-- A model as text.
use Rattle.std.specs.Prelude.{ℕ, suc, ◌==◌, Bool, cond, List, [], ◌∷◌, ◌++◌, decimal}
use Rattle.sat_command.specs.declared.model_text.TheConstants.{LINE}

-- what stands before a variable: a blank, and a `-` where it is false
abbrev pub sign_text : Bool → List ℕ
sign_text value = cond value (32 ∷ []) (32 ∷ 45 ∷ [])

-- the literal of a variable that is true
abbrev pub literal_text : ℕ → Bool → List ℕ
literal_text variable value = sign_text value ++ decimal variable

-- the literals of variables from one on, behind so many in their line, and a `0` at the end
abbrev pub values_text : ℕ → ℕ → List Bool → List ℕ
values_text variable column [] = 32 ∷ 48 ∷ 10 ∷ []
values_text variable column (value ∷ values) =
    cond (column == LINE)
    (10 ∷ 118 ∷ (literal_text variable value ++ values_text (suc variable) 1 values))
    (literal_text variable value ++ values_text (suc variable) (suc column) values)

-- the lines of a model
abbrev pub model_text : List Bool → List ℕ
model_text values = 118 ∷ values_text 1 0 values
