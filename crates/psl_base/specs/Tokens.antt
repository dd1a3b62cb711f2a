-- The tokens of a text: what stands between white space.
use Rattle.std.specs.Prelude.{◌≡◌, ℕ, suc, Bool, false, not, cond, List, [], ◌∷◌, length, drop, Option, None, Some}
use Rattle.psl_base.specs.Bytes.{is_white}
use Rattle.psl_base.specs.Places.{place_at}
use Rattle.psl_base.specs.declared.place.Place.{Place}

-- a token: how many bytes stand before it, its place, and its bytes
pub record PlacedToken : Type 0 where
  pub at : ℕ
  pub place : Place
  pub text : List ℕ

-- the token of a text with these bytes, before which so many stand
abbrev pub token_at : List ℕ → ℕ → List ℕ → PlacedToken
token_at whole at text = record { at = at; place = place_at whole at; text = text }

-- the next byte is there, and is one of a token
abbrev pub begins_token : List ℕ → Bool
begins_token [] = false
begins_token (b ∷ bs) = not (is_white b)

-- a byte before the first token, whose text it begins
abbrev pub onto_first : List ℕ → ℕ → ℕ → List PlacedToken → List PlacedToken
onto_first whole at b [] = []
onto_first whole at b (t ∷ ts) = token_at whole at (b ∷ t.text) ∷ ts

-- the tokens in what is left of a text, before which so many of its bytes stand
abbrev pub tokens_from : List ℕ → ℕ → List ℕ → List PlacedToken
tokens_from whole at [] = []
tokens_from whole at (b ∷ bs) =
    cond (is_white b) (tokens_from whole (suc at) bs)
    (cond (begins_token bs) (onto_first whole at b (tokens_from whole (suc at) bs)) (token_at whole at (b ∷ []) ∷ tokens_from whole (suc at) bs))

-- the tokens of a text
abbrev pub tokens : List ℕ → List PlacedToken
tokens text = tokens_from text 0 text

-- what is left of a text: its tokens, and the place of the text's end
pub record TokensLeft : Type 0 where
  pub tokens : List PlacedToken
  pub end : Place

abbrev pub left_from : List ℕ → ℕ → TokensLeft
left_from whole at = record { tokens = tokens_from whole at (drop at whole); end = place_at whole (length whole) }

-- all tokens of a text are left
abbrev pub all_tokens : List ℕ → TokensLeft
all_tokens text = record { tokens = tokens text; end = place_at text (length text) }

-- what was left before a token was taken
infixr 30 ◌▸◌
abbrev pub ◌▸◌ : PlacedToken → TokensLeft → TokensLeft
t ▸ left = record { tokens = t ∷ left.tokens; end = left.end }

-- the first token was taken, or there is none
abbrev pub IsNext : Option PlacedToken → TokensLeft → TokensLeft → Type 0
IsNext None old new = (old.tokens ≡ []) × (new ≡ old)
IsNext (Some t) old new = old ≡ t ▸ new
