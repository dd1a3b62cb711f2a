-- A model's text, literal by literal.
use Rattle.std.proofs.Common.{◌≡◌, ◌∙◌, ap, sym, refl, ℕ, zero, suc, ◌+◌, ◌<◌, Bool, false, List, [], ◌∷◌, ◌++◌, length, drop, get_or, arith, append_assoc}
use Rattle.sat_command.specs.Models.{values_text, model_text}

-- the text so far, and what is still to be added
pub record IsTyped (start text : List ℕ) (values : List Bool) (place column : ℕ) : Type 0 where
  pub is : text ++ values_text (place + 1) column (drop place values) ≡ start ++ model_text values

pub typed_none : {start text : List ℕ} (values : List Bool) → text ≡ start ++ 118 ∷ [] → IsTyped start text values 0 0
typed_none {start = start} values is = record { is = ap (λ t. t ++ values_text 1 0 values) is ∙ append_assoc start (118 ∷ []) (values_text 1 0 values) }

first_left : (values : List Bool) (place : ℕ) → place < length values → drop place values ≡ get_or values place false ∷ drop (suc place) values
first_left [] place lt = absurd (omega arith)
first_left (value ∷ values) zero lt = refl
first_left (value ∷ values) (suc place) lt = first_left values place (omega arith)

pub typed_more : {start text : List ℕ} {values : List Bool} {place column : ℕ} (text' : List ℕ) (next : ℕ) (value : Bool) → IsTyped start text values place column → place < length values
    → get_or values place false ≡ value
    → ((rest : List Bool) → text ++ values_text (place + 1) column (value ∷ rest) ≡ text' ++ values_text (place + 1 + 1) next rest)
    → IsTyped start text' values (place + 1) next
typed_more {text = text} {values = values} {place = place} {column = column} text' next value t lt is added = let following : suc place ≡ place + 1 = omega arith in record {
  is = sym (added (drop (place + 1) values))
      ∙ ap (λ v. text ++ values_text (place + 1) column (v ∷ drop (place + 1) values)) (sym is)
      ∙ ap (λ vs. text ++ values_text (place + 1) column vs) (sym (first_left values place lt ∙ ap (λ n. get_or values place false ∷ drop n values) following)) ∙ t.is;
}
