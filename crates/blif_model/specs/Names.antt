-- The names of a model, numbered from 0 in the order of their first mention, which of them are driven, and the word
-- that mentions each first.
use Rattle.std.specs.Prelude.{ℕ, nat_le, Bool, false, ◌&&◌, ◌||◌, cond, Option, None, Some, is_none}
use Rattle.std.specs.Prelude.{List, [], ◌∷◌, ◌++◌, length, slice_index_or, slice_set}
use Rattle.std.specs.List.{fold, position_from}
use Rattle.std.specs.Option.{option_map, option_or}
use Rattle.std.specs.Str.{bytes_eq}
use Rattle.psl_base.specs.Tokens.{PlacedToken}
use Rattle.psl_base.specs.declared.place.Place.{Place}
use Rattle.blif_model.specs.declared.fault.BlifFault.{BlifFault}
use Rattle.blif_model.specs.declared.fault.BlifFault.TheVariants.{DrivenTwice, TooLarge}
use Rattle.blif_model.specs.Models.{Mention}
use Rattle.blif_model.specs.Rules.{signal_limit}

-- the number of a name: the place of the first equal one
abbrev pub place_of : List (List ℕ) → List ℕ → Option ℕ
place_of names name = position_from (λ other. bytes_eq name other) 0 names

abbrev pub is_new : List (List ℕ) → List ℕ → Bool
is_new names name = is_none (place_of names name)

-- the number of a name; 0 where it is none of the names
abbrev pub number_at : Option ℕ → ℕ
number_at None = 0
number_at (Some number) = number

abbrev pub number_of : List (List ℕ) → PlacedToken → ℕ
number_of names word = number_at (place_of names word.text)

-- the names of a text, and of each whether something drives it, and the first word that mentions it
pub record Named : Type 0 where
  pub whole : List ℕ
  pub names : List (List ℕ)
  pub driven : List Bool
  pub firsts : List PlacedToken

abbrev pub nothing_named : List ℕ → Named
nothing_named whole = record { whole = whole; names = []; driven = []; firsts = [] }

abbrev pub with_place : Named → Mention → Option ℕ → Named
with_place named mention None = record {
  whole = named.whole;
  names = named.names ++ mention.word.text ∷ [];
  driven = named.driven ++ mention.drives ∷ [];
  firsts = named.firsts ++ mention.word ∷ [];
}
with_place named mention (Some number) =
    record named { driven = slice_set named.driven number (slice_index_or named.driven number false || mention.drives) }

-- the names with one mention more
abbrev pub with_mention : Named → Mention → Named
with_mention named mention = with_place named mention (place_of named.names mention.word.text)

-- the names of a text that are mentioned
abbrev pub named_by : List ℕ → List Mention → Named
named_by whole mentions = fold with_mention (nothing_named whole) mentions

abbrev pub rule_at : Named → Bool → Option ℕ → Option (Place → BlifFault)
rule_at named drives None = cond (nat_le signal_limit (length named.names)) (Some TooLarge) None
rule_at named drives (Some number) = cond (drives && slice_index_or named.driven number false) (Some DrivenTwice) None

-- the fault of a mention, by the names before it
abbrev pub rule_of : Named → Mention → Option (Place → BlifFault)
rule_of named mention = rule_at named mention.drives (place_of named.names mention.word.text)

abbrev pub mention_fault : Named → Mention → Option BlifFault
mention_fault named mention = option_map (λ fault. fault mention.word.place) (rule_of named mention)

-- the first fault of mentions that stand behind others, by the names of these
abbrev pub names_fault_in : Named → List Mention → Option BlifFault
names_fault_in named [] = None
names_fault_in named (mention ∷ mentions) =
    option_or (mention_fault named mention) (names_fault_in (with_mention named mention) mentions)

-- the names with more mentions
abbrev pub with_mentions : Named → List Mention → Named
with_mentions named [] = named
with_mentions named (mention ∷ mentions) = with_mentions (with_mention named mention) mentions

-- the numbers of the names that are mentioned, as they come
abbrev pub numbers_in : Named → List Mention → List ℕ
numbers_in named [] = []
numbers_in named (mention ∷ mentions) =
    number_of (with_mention named mention).names mention.word ∷ numbers_in (with_mention named mention) mentions
