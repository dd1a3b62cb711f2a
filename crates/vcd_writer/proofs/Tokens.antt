-- The tokens of a text whose words each have one white space byte behind them.
use Rattle.std.proofs.Common.{◌≡◌, ◌∙◌, refl, ap, ℕ, suc, ◌+◌, ◌<◌, Bool, true, false, not, List, [], ◌∷◌, ◌++◌, length, arith}
use Rattle.std.specs.Prelude.{◌&&◌}
use Rattle.std.specs.List.{list_all}
use Rattle.std.proofs.lemmas.Bool.{cond-true, cond-false}
use Rattle.psl_base.specs.Bytes.{is_white}
use Rattle.psl_base.specs.Tokens.{token_at, begins_token, onto_first, tokens_from}

-- a byte that is no white space
abbrev pub is_solid : ℕ → Bool
is_solid byte = not (is_white byte)

solid-white : (b : Bool) → not b ≡ true → b ≡ false
solid-white true e = cc
solid-white false e = refl

pub true-left : (a b : Bool) → (a && b) ≡ true → a ≡ true
true-left true b e = refl
true-left false b e = cc

pub true-right : (a b : Bool) → (a && b) ≡ true → b ≡ true
true-right true b e = e
true-right false b e = cc

-- a word that a white space byte ends is a token
pub word-token : (whole : List ℕ) (at : ℕ) (word : List ℕ) (gap : ℕ) (rest : List ℕ) → 0 < length word → list_all is_solid word ≡ true → is_white gap ≡ true
    → tokens_from whole at (word ++ gap ∷ rest) ≡ token_at whole at word ∷ tokens_from whole (at + length word + 1) rest
word-token whole at [] gap rest long solid white = absurd (omega arith)
word-token whole at (b ∷ []) gap rest long solid white =
    let here : is_white b ≡ false = solid-white (is_white b) (true-left _ _ solid) in
    cond-false (is_white b) _ _ here
    ∙ cond-false (begins_token (gap ∷ rest)) _ _ (ap not white)
    ∙ ap (λ ts. token_at whole at (b ∷ []) ∷ ts) (cond-true (is_white gap) _ _ white)
    ∙ ap (λ (n : ℕ). token_at whole at (b ∷ []) ∷ tokens_from whole n rest) (let e : suc (suc at) ≡ at + 1 + 1 = omega arith in e)
word-token whole at (b ∷ c ∷ word) gap rest long solid white =
    let here : is_white b ≡ false = solid-white (is_white b) (true-left _ _ solid) in
    let more = true-right (is_solid b) _ solid in
    let next : is_solid c ≡ true = true-left _ _ more in
    let ends : suc at + length (c ∷ word) + 1 ≡ at + length (b ∷ c ∷ word) + 1 = omega arith in
    cond-false (is_white b) _ _ here ∙ cond-true (begins_token ((c ∷ word) ++ gap ∷ rest)) _ _ next
    ∙ ap (onto_first whole at b) (word-token whole (suc at) (c ∷ word) gap rest (omega arith) more white)
    ∙ ap (λ (n : ℕ). token_at whole at (b ∷ c ∷ word) ∷ tokens_from whole n rest) ends
