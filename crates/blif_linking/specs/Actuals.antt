-- What the connections of a placement mention, by what the models offer: an input uses its actual, and an output drives it.
use Rattle.std.specs.Prelude.{ℕ, List, [], Option, None, Some}
use Rattle.std.specs.List.{flat_map}
use Rattle.std.specs.Option.{option_map}
use Rattle.psl_base.specs.Tokens.{PlacedToken}
use Rattle.psl_base.specs.declared.place.Place.{Place}
use Rattle.blif_model.specs.Files.{Placing}
use Rattle.blif_model.specs.Models.{Mention}
use Rattle.blif_model.specs.Scanning.{word_of}
use Rattle.blif_linking.specs.declared.actuals.Actual.{Actual}
use Rattle.blif_linking.specs.declared.interface.Interface.{Interface}
use Rattle.blif_linking.specs.Bad.{offered}
use Rattle.blif_linking.specs.Links.{Link, connections_in, link_of, title_in}
use Rattle.blif_linking.specs.Names.{actual_at, mention_by_role}
use Rattle.blif_linking.specs.Offers.{role_in}

abbrev pub mention_offered : Interface → PlacedToken → Option Link → List Mention
mention_offered interface word None = []
mention_offered interface word (Some link) = mention_by_role (actual_at word link) (role_in interface link.formal)

abbrev pub mentions_in : Interface → List PlacedToken → List Mention
mentions_in interface words = flat_map (λ (word : PlacedToken). mention_offered interface word (link_of word.text)) words

abbrev pub mentions_offered : Option Interface → List PlacedToken → List Mention
mentions_offered None words = []
mentions_offered (Some interface) words = mentions_in interface words

abbrev pub mentions_at : (List ℕ → Option ℕ) → List Interface → Placing → List Mention
mentions_at number interfaces placing =
    mentions_offered (offered number interfaces (title_in placing.words)) (connections_in placing.words)

-- a mention by its span
abbrev pub actual_in : List ℕ → Actual → Mention
actual_in whole actual = record {
  word = record { at = actual.word.at; place = (word_of whole actual.word).place; text = actual.name.now };
  drives = actual.drives;
}

-- the place of a word, where there is one
abbrev pub at_place : Option PlacedToken → Option Place
at_place word = option_map (λ (w : PlacedToken). w.place) word
