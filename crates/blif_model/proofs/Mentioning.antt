-- Mentions one behind the other, and their faults.
use Rattle.std.proofs.Common.{◌≡◌, ℕ, suc, ◌≤◌, true, false, List, [], ◌∷◌, ◌++◌, length, map, get_or, Option, None, Some, refl, ap, ◌∙◌, arith}
use Rattle.std.proofs.lemmas.List.{length-map, map-append}
use Rattle.std.specs.Option.{option_or}
use Rattle.std.specs.Prelude.{nat_le}
use Rattle.psl_base.specs.Tokens.{PlacedToken}
use Rattle.psl_base.specs.declared.place.Place.{Place}
use Rattle.blif_model.specs.declared.fault.BlifFault.{BlifFault}
use Rattle.blif_model.specs.declared.fault.BlifFault.TheVariants.{DrivenTwice, TooLarge}
use Rattle.blif_model.specs.declared.pieces.Span.{Span}
use Rattle.blif_model.specs.Models.{Mention, driven, used, mention_as}
use Rattle.blif_model.specs.Names.{Named, mention_fault, names_fault_in, number_of, numbers_in, place_of, with_mention, with_mentions}
use Rattle.blif_model.specs.Rules.{signal_limit}
use Rattle.blif_model.specs.Standing.{last_of, mentions_of_names}
use Rattle.blif_model.specs.Known.{Known, width_in, with_table, with_table_of}

pub twice-fault : (named : Named) (mention : Mention) (n : ℕ) (place : Place) → place_of named.names mention.word.text ≡ Some n → mention.drives ≡ true
    → get_or named.driven n false ≡ true → place ≡ mention.word.place → mention_fault named mention ≡ Some (DrivenTwice place)
twice-fault named mention n place at drives driven is = rw (at, drives, driven, is) refl

pub large-fault : (named : Named) (mention : Mention) (place : Place) → place_of named.names mention.word.text ≡ None → signal_limit ≤ length named.names
    → place ≡ mention.word.place → mention_fault named mention ≡ Some (TooLarge place)
large-fault named mention place at many is =
    let full : nat_le signal_limit (length named.names) ≡ true = grind arith in
    rw (at, full, is) refl

-- mentions behind others
pub with-append : (named : Named) (before after : List Mention) → with_mentions named (before ++ after) ≡ with_mentions (with_mentions named before) after
with-append named [] after = refl
with-append named (mention ∷ before) after = with-append (with_mention named mention) before after

pub numbers-append : (named : Named) (before after : List Mention) → numbers_in named (before ++ after) ≡ numbers_in named before ++ numbers_in (with_mentions named before) after
numbers-append named [] after = refl
numbers-append named (mention ∷ before) after =
    ap (λ numbers. number_of (with_mention named mention).names mention.word ∷ numbers) (numbers-append (with_mention named mention) before after)

or-assoc : (a b c : Option BlifFault) → option_or a (option_or b c) ≡ option_or (option_or a b) c
or-assoc None b c = refl
or-assoc (Some fault) b c = refl

pub fault-append : (named : Named) (before after : List Mention) → names_fault_in named (before ++ after) ≡ option_or (names_fault_in named before) (names_fault_in (with_mentions named before) after)
fault-append named [] after = refl
fault-append named (mention ∷ before) after =
    ap (option_or (mention_fault named mention)) (fault-append (with_mention named mention) before after)
    ∙ or-assoc (mention_fault named mention) (names_fault_in (with_mention named mention) before) (names_fault_in (with_mentions (with_mention named mention) before) after)

pub either : (a b : Option BlifFault) (fault : BlifFault) → a ≡ Some fault → option_or a b ≡ Some fault
either a b fault is = rw is refl

second : (a b c : Option BlifFault) → a ≡ None → b ≡ c → option_or a b ≡ c
second a b c none is = rw (none, is) refl

or-none : (o : Option BlifFault) → option_or o None ≡ o
or-none None = refl
or-none (Some fault) = refl

-- the fault of mentions is one of those with more behind them
pub fault-before : (named : Named) (before after : List Mention) (fault : BlifFault) → names_fault_in named before ≡ Some fault → names_fault_in named (before ++ after) ≡ Some fault
fault-before named before after fault is =
    fault-append named before after ∙ either (names_fault_in named before) (names_fault_in (with_mentions named before) after) fault is

-- and of one mention behind others without fault
pub fault-behind : (named : Named) (before : List Mention) (mention : Mention) (found : Option BlifFault) → names_fault_in named before ≡ None
    → mention_fault (with_mentions named before) mention ≡ found → names_fault_in named (before ++ mention ∷ []) ≡ found
fault-behind named before mention found none is =
    fault-append named before (mention ∷ [])
    ∙ second (names_fault_in named before) (names_fault_in (with_mentions named before) (mention ∷ [])) found none (or-none (mention_fault (with_mentions named before) mention) ∙ is)

-- the words of a table are its inputs, and behind them its output
pub names-split : (words : List PlacedToken) (output : PlacedToken) → mentions_of_names (words ++ output ∷ []) ≡ map (mention_as false) words ++ mention_as true output ∷ []
names-split [] output = refl
names-split (word ∷ []) output = refl
names-split (word ∷ other ∷ words) output = ap (λ mentions. used word ∷ mentions) (names-split (other ∷ words) output)

pub last-split : (words : List PlacedToken) (output : PlacedToken) → last_of (words ++ output ∷ []) ≡ Some output
last-split [] output = refl
last-split (word ∷ []) output = refl
last-split (word ∷ other ∷ words) output = last-split (other ∷ words) output

length-more : (words : List PlacedToken) (output : PlacedToken) → length (words ++ output ∷ []) ≡ suc (length words)
length-more [] output = refl
length-more (word ∷ words) output = ap suc (length-more words output)

pub width-split : (words : List PlacedToken) (output : PlacedToken) → width_in (words ++ output ∷ []) ≡ length words
width-split [] output = refl
width-split (word ∷ words) output = length-more words output

-- the words of a `.names` with an output
pub names-mentions : (word : Span → PlacedToken) (words inputs : List Span) (output : Span) → words ≡ inputs ++ output ∷ []
    → mentions_of_names (map word words) ≡ map (mention_as false) (map word inputs) ++ mention_as true (word output) ∷ []
names-mentions word words inputs output is =
    ap mentions_of_names (ap (map word) is ∙ map-append word inputs (output ∷ [])) ∙ names-split (map word inputs) (word output)

table-of : (known : Known) (words : List PlacedToken) (mentions : List Mention) (width : ℕ) (output : PlacedToken) → last_of words ≡ Some output → mentions_of_names words ≡ mentions → width_in words ≡ width
    → with_table_of known words (last_of words) ≡ with_table known mentions width output
table-of known words mentions width output last are wide = rw (last, are, wide) refl

pub names-known : (known : Known) (word : Span → PlacedToken) (words inputs : List Span) (output : Span) → words ≡ inputs ++ output ∷ []
    → with_table_of known (map word words) (last_of (map word words))
    ≡ with_table known (map (mention_as false) (map word inputs) ++ mention_as true (word output) ∷ []) (length inputs) (word output)
names-known known word words inputs output is =
    let parts : map word words ≡ map word inputs ++ word output ∷ [] = ap (map word) is ∙ map-append word inputs (output ∷ []) in
    table-of known (map word words) (map (mention_as false) (map word inputs) ++ mention_as true (word output) ∷ []) (length inputs) (word output)
    (ap last_of parts ∙ last-split (map word inputs) (word output)) (names-mentions word words inputs output is)
    (ap width_in parts ∙ width-split (map word inputs) (word output) ∙ length-map inputs word)
