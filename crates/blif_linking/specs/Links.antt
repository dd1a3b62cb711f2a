-- What the words behind a `.subckt` say: the name of a model, and its connections (Berkeley Logic Interchange Format,
-- model references).
use Rattle.std.specs.Prelude.{ℕ, ◌+◌, ◌==◌, nat_lt, ◌&&◌, cond, List, [], ◌∷◌, length, take, drop, position, Option, None, Some}
use Rattle.psl_base.specs.Tokens.{PlacedToken}

-- a formal of the model that is placed, and the name that it is connected with
pub record Link : Type 0 where
  pub formal : List ℕ
  pub actual : List ℕ

abbrev pub link_at : List ℕ → Option ℕ → Option Link
link_at text None = None
link_at text (Some place) =
    cond (nat_lt 0 place && nat_lt (place + 1) (length text))
    (Some (record { formal = take place text; actual = drop (place + 1) text })) None

-- `f=a`: f is what stands before the first `=` of a word, and a all that stands behind it; neither is empty
abbrev pub link_of : List ℕ → Option Link
link_of text = link_at text (position (λ byte. byte == 61) text)

-- the formal of a connection
abbrev pub formal_of : Option Link → List (List ℕ)
formal_of None = []
formal_of (Some link) = link.formal ∷ []

-- the name of the model, and the connections
abbrev pub title_in : List PlacedToken → Option PlacedToken
title_in [] = None
title_in (title ∷ words) = Some title

abbrev pub connections_in : List PlacedToken → List PlacedToken
connections_in [] = []
connections_in (title ∷ words) = words
