-- A model has no more names than its lines and its connections have words.
use Rattle.std.proofs.Common.{◌≡◌, ℕ, ◌+◌, ◌-◌, ◌<◌, ◌≤◌, ◌^◌, Bool, true, false, cond, List, [], ◌∷◌, ◌++◌, length, map, take, drop, fold, Option, None, Some, refl, sym, ap, subst, arith, length-append}
use Rattle.std.specs.Prelude.{All, IfSome}
use Rattle.std.proofs.lemmas.List.Elements.{All-nil, All-cons}
use Rattle.std.specs.List.{flat_map}
use Rattle.psl_base.specs.Places.{file_limit}
use Rattle.psl_base.specs.Tokens.{PlacedToken}
use Rattle.blif_model.specs.Files.{Part, Placing, model_named, models_of}
use Rattle.blif_model.specs.Models.{Mention, Model, Statement, with_name}
use Rattle.std.specs.Prelude.{Ok}
use Rattle.blif_model.specs.Names.{place_of}
use Rattle.blif_model.proofs.Held.{PartHolds, PartsHold, models-few, parts-hold, words_placed}
use Rattle.blif_model.proofs.Mentioned.{all_mentions}
use Rattle.blif_linking.specs.Interfaces.{Role, Input, Output, Clock, is_one_of, role_of}
use Rattle.blif_linking.specs.Linked.{linked_texts}
use Rattle.blif_linking.specs.Links.{Link, connections_in, link_of}
use Rattle.blif_linking.specs.Names.{actual_at, entries_from, mention_by_role, mention_linked, mentions_by, mentions_entered, mentions_in, mentions_placed, names_in, placed}
use Rattle.blif_linking.specs.Numbering.{AreSmall}
use Rattle.blif_linking.proofs.Closed.{named-below}
use Rattle.blif_linking.proofs.Freeing.{flat-entries, flat-said, split-at}

name-few : (there : Bool) (names : List (List ℕ)) (name : List ℕ) → length (cond there names (names ++ name ∷ [])) ≤ length names + 1
name-few true names name = omega arith
name-few false names name = omega (arith, length-append names (name ∷ []))

fold-few : (names : List (List ℕ)) (mentions : List Mention)
    → length (fold (λ names mention. with_name names mention.word.text) names mentions) ≤ length names + length mentions
fold-few names [] = omega arith
fold-few names (mention ∷ mentions) =
    omega (arith, fold-few (with_name names mention.word.text) mentions, name-few (is_one_of names mention.word.text) names mention.word.text)

role-few : (word : PlacedToken) (role : Option Role) → length (mention_by_role word role) ≤ 1
role-few word (Some Input) = omega arith
role-few word (Some Output) = omega arith
role-few word (Some Clock) = omega arith
role-few word None = omega arith

link-few : (model : Part Model) (word : PlacedToken) (link : Option Link) → length (mention_linked model word link) ≤ 1
link-few model word None = omega arith
link-few model word (Some link) = role-few (actual_at word link) (role_of model link.formal)

words-few : (model : Part Model) (words : List PlacedToken)
    → length (flat_map (λ (word : PlacedToken). mention_linked model word (link_of word.text)) words) ≤ length words
words-few model [] = omega arith
words-few model (word ∷ words) =
    let rest = flat_map (λ (word : PlacedToken). mention_linked model word (link_of word.text)) words in
    omega (arith, link-few model word (link_of word.text), words-few model words, length-append (mention_linked model word (link_of word.text)) rest)

behind-few : (words : List PlacedToken) → length (connections_in words) ≤ length words
behind-few [] = omega arith
behind-few (word ∷ words) = omega arith

by-few : (model : Option (Part Model)) (words : List PlacedToken) → length (mentions_by model words) ≤ length words
by-few None words = omega arith
by-few (Some model) words = words-few model words

placings-few : (parts : List (Part Model)) (placings : List Placing) → length (flat_map (mentions_placed parts) placings) ≤ words_placed placings
placings-few parts [] = omega arith
placings-few parts (placing ∷ placings) =
    omega (
      arith,
      by-few (placed parts placing) (connections_in placing.words),
      behind-few placing.words,
      placings-few parts placings,
      length-append (mentions_placed parts placing) (flat_map (mentions_placed parts) placings),
    )

entries-count : (parts : List (Part Model)) (before : ℕ) (statements : List Statement) (placings : List Placing)
    → length (flat_map (mentions_entered parts) (entries_from before statements placings))
    ≡ length (all_mentions statements) + length (flat_map (mentions_placed parts) placings)
entries-count parts before statements [] = omega (arith, ap (length {A = Mention}) (flat-said parts statements))
entries-count parts before statements (placing ∷ placings) =
    let k = placing.before - before in
    let here = mentions_placed parts placing in
    let rest = flat_map (mentions_entered parts) (entries_from placing.before (drop k statements) placings) in
    omega (
      arith,
      ap (length {A = Mention}) (flat-entries parts before statements placing placings),
      length-append (all_mentions (take k statements)) (here ++ rest),
      length-append here rest,
      entries-count parts placing.before (drop k statements) placings,
      ap (length {A = Mention}) (split-at k statements),
      length-append (all_mentions (take k statements)) (all_mentions (drop k statements)),
      length-append here (flat_map (mentions_placed parts) placings),
    )

part-few : (size most : ℕ) (parts : List (Part Model)) (part : Part Model) → PartHolds size part most → length (names_in parts part) ≤ most + most
part-few size most parts part holds =
    omega (
      arith,
      fold-few [] (mentions_in parts part),
      entries-count parts 0 part.own.statements part.placings,
      ap (length {A = Mention}) holds.own.mentions,
      holds.mentioned,
      holds.many,
      placings-few parts part.placings,
    )

all-few : (size most : ℕ) (parts some : List (Part Model)) → PartsHold size some most → most ≤ file_limit
    → All (λ names. length names < 2 ^ 32) (map (names_in parts) some)
all-few size most parts [] holds room = All-nil (λ (names : List (List ℕ)). length names < 2 ^ 32)
all-few size most parts (part ∷ some) holds room =
    All-cons (λ (names : List (List ℕ)). length names < 2 ^ 32) (names_in parts part) (map (names_in parts) some)
    (omega (arith, part-few size most parts part holds.0, room)) (all-few size most parts some holds.1 room)

pub texts-few : (text : List ℕ) (parts : List (Part Model)) → models_of text ≡ Ok parts → length text ≤ file_limit
    → All (λ names. length names < 2 ^ 32) (linked_texts parts)
texts-few text parts is room = all-few (length text) (length text) parts parts (parts-hold text parts is) room

-- the numbers of the names of models fit 32 bits
by-some : (text : List ℕ) (parts : List (Part Model)) (name : List ℕ) (number : Option ℕ) → model_named parts name ≡ number → length parts ≤ length text + 1
    → length text ≤ file_limit → IfSome number (λ n. n < 2 ^ 32)
by-some text parts name None is few room = tt
by-some text parts name (Some n) is few room = omega (arith, named-below parts name n is, few, room)

pub titles-small : (text : List ℕ) (titles : List (List ℕ)) (parts : List (Part Model)) → models_of text ≡ Ok parts → length text ≤ file_limit
    → ((name : List ℕ) → place_of titles name ≡ model_named parts name) → AreSmall titles
titles-small text titles parts is room same = λ name.
    subst (λ number. IfSome number (λ n. n < 2 ^ 32)) (sym (same name)) (by-some text parts name (model_named parts name) refl (models-few text parts is) room)
