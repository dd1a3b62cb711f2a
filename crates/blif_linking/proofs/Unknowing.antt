-- Models by numbers place what the models of the text place.
use Rattle.std.proofs.Common.{◌≡◌, ℕ, List, [], ◌∷◌, map, Option, None, Some, refl, ap, ◌∙◌, cond}
use Rattle.std.specs.Prelude.{is_none}
use Rattle.std.specs.Option.{option_or}
use Rattle.psl_base.specs.Tokens.{PlacedToken}
use Rattle.blif_model.specs.declared.file.FileText.{FileText}
use Rattle.blif_model.specs.FileKnown.{IsNumbered, numbered_part, part_in}
use Rattle.blif_model.specs.Files.{Part, Placing, model_named}
use Rattle.blif_model.specs.Models.{Model}
use Rattle.blif_model.specs.Names.{place_of}
use Rattle.blif_linking.specs.Links.{title_in}
use Rattle.blif_linking.specs.Names.{first_some, first_unknown, unknown_by, unknown_from, unknown_word}

by-number : (one other : List ℕ → Option ℕ) → ((name : List ℕ) → one name ≡ other name) → (head : PlacedToken) (title : Option PlacedToken)
    → unknown_by one head title ≡ unknown_by other head title
by-number one other same head None = refl
by-number one other same head (Some title) = ap (λ (number : Option ℕ). cond (is_none number) (Some title) None) (same title.text)

some-same : (one other : List ℕ → Option ℕ) → ((name : List ℕ) → one name ≡ other name) → (placings : List Placing)
    → first_some (unknown_word one) placings ≡ first_some (unknown_word other) placings
some-same one other same [] = refl
some-same one other same (placing ∷ placings) =
    ap (λ (found : Option PlacedToken). option_or found (first_some (unknown_word one) placings))
    (by-number one other same placing.head (title_in placing.words))
    ∙ ap (option_or (unknown_word other placing)) (some-same one other same placings)

from-same : (whole : List ℕ) (one other : List ℕ → Option ℕ) → ((name : List ℕ) → one name ≡ other name) → (parts : List (Part Model))
    → unknown_from one (map (numbered_part whole) parts) ≡ unknown_from other parts
from-same whole one other same [] = refl
from-same whole one other same (part ∷ parts) =
    ap (λ (found : Option PlacedToken). option_or found (unknown_from one (map (numbered_part whole) parts)))
    (some-same one other same part.placings)
    ∙ ap (option_or (first_some (unknown_word other) part.placings)) (from-same whole one other same parts)

pub unknown-is : (whole : List ℕ) (text : FileText) (parts : List (Part Model)) → IsNumbered whole text parts
    → unknown_from (place_of text.titles) (map (part_in whole) text.models) ≡ first_unknown parts
unknown-is whole text parts numbered =
    ap (unknown_from (place_of text.titles)) numbered.0
    ∙ from-same whole (place_of text.titles) (model_named parts) numbered.1 parts
