-- Models that are linked place each other, where each that is placed is there.
use Rattle.std.proofs.Common.{◌≡◌, ℕ, zero, suc, ◌+◌, ◌-◌, ◌<◌, Bool, true, false, cond, List, [], ◌∷◌, length, map, take, drop, Option, None, Some, is_none, refl, sym, subst, ⊎_elim, inl, inr, arith}
use Rattle.std.specs.Prelude.{option_and_then}
use Rattle.std.proofs.lemmas.List.{length-map, map-append}
use Rattle.std.specs.List.{position_from}
use Rattle.psl_base.specs.Tokens.{PlacedToken}
use Rattle.blif_flattening.specs.declared.model.Item.TheVariants.{Place}
use Rattle.blif_flattening.specs.declared.model.Placement.{Placement}
use Rattle.blif_flattening.specs.Hierarchy.{items_of}
use Rattle.blif_flattening.specs.Members.{Among}
use Rattle.blif_flattening.proofs.Members.{from_append}
use Rattle.blif_hierarchy.specs.First.{IsClosed}
use Rattle.blif_model.specs.Files.{Part, Placing, is_named, model_named}
use Rattle.blif_model.specs.Models.{Model, Statement}
use Rattle.blif_model.specs.Names.{number_at}
use Rattle.blif_model.proofs.Holding.{or_none}
use Rattle.blif_linking.specs.Linked.{item_of, linked, linked_model}
use Rattle.blif_linking.specs.Links.{title_in}
use Rattle.blif_linking.specs.Names.{Says, Places, entries_from, first_some, first_unknown, number_placed, unknown_by, unknown_word}

-- the number of a model is below their count
by-test : (b : Bool) (i n count : ℕ) (later : Option ℕ) → i < count → cond b (Some i) later ≡ Some n → (later ≡ Some n → n < count) → n < count
by-test true i n count later below is next = let same : i ≡ n = cc in omega arith
by-test false i n count later below is next = next is

below-end : (name : List ℕ) (i n : ℕ) (parts : List (Part Model)) → position_from (λ (part : Part Model). is_named name part.title) i parts ≡ Some n → n < i + length parts
below-end name i n [] is = cc
below-end name i n (part ∷ parts) is =
    by-test (is_named name part.title) i n (i + length (part ∷ parts)) (position_from (λ (part : Part Model). is_named name part.title) (i + 1) parts) (omega arith) is
    (λ later. omega (arith, below-end name (i + 1) n parts later))

pub named-below : (parts : List (Part Model)) (name : List ℕ) (n : ℕ) → model_named parts name ≡ Some n → n < length parts
named-below parts name n is = omega (arith, below-end name 0 n parts is)

title-known : (word : PlacedToken) (number : Option ℕ) → cond (is_none number) (Some word) None ≡ None → (n : ℕ) × (number ≡ Some n)
title-known word None is = cc
title-known word (Some n) is = (n, refl)

known-number : (parts : List (Part Model)) (head : PlacedToken) (title : Option PlacedToken) → unknown_by (model_named parts) head title ≡ None
    → number_at (option_and_then (λ (word : PlacedToken). model_named parts word.text) title) < length parts
known-number parts head None is = cc
known-number parts head (Some word) is =
    let known = title-known word (model_named parts word.text) is in
    subst (λ number. number_at number < length parts) (sym known.1) (named-below parts word.text known.0 known.1)

pub lines-only : (parts : List (Part Model)) (part : Part Model) (statements : List Statement) (placement : Placement) → Among (Place placement) (map (item_of parts part) (map Says statements)) → ⊥
lines-only parts part [] placement there = there
lines-only parts part (statement ∷ statements) placement (inl here) = cc
lines-only parts part (statement ∷ statements) placement (inr there) = lines-only parts part statements placement there

items-closed : (parts : List (Part Model)) (part : Part Model) (before : ℕ) (statements : List Statement) (placings : List Placing) (placement : Placement)
    → first_some (unknown_word (model_named parts)) placings ≡ None
    → Among (Place placement) (map (item_of parts part) (entries_from before statements placings)) → placement.model < length parts
items-closed parts part before statements [] placement none there = absurd (lines-only parts part statements placement there)
items-closed parts part before statements (placing ∷ placings) placement none there =
    let k = placing.before - before in
    let rest = entries_from placing.before (drop k statements) placings in
    let known = or_none (unknown_word (model_named parts) placing) (first_some (unknown_word (model_named parts)) placings) none in
    let split = subst (Among (Place placement)) (map-append (item_of parts part) (map Says (take k statements)) (Places placing ∷ rest)) there in
    ⊎_elim
    (λ line. absurd (lines-only parts part (take k statements) placement line))
    (λ other. ⊎_elim
    (λ here. let same : placement.model ≡ number_at (number_placed parts placing) = cc in
    subst (λ n. n < length parts) (sym same) (known-number parts placing.head (title_in placing.words) known.0))
    (λ later. items-closed parts part placing.before (drop k statements) placings placement known.1 later) other)
    (from_append (Place placement) (map (item_of parts part) (map Says (take k statements))) (item_of parts part (Places placing) ∷ map (item_of parts part) rest) split)

models-closed : (parts some : List (Part Model)) (model : ℕ) (placement : Placement)
    → first_some (λ (part : Part Model). first_some (unknown_word (model_named parts)) part.placings) some ≡ None
    → Among (Place placement) (items_of (map (linked_model parts) some) model) → placement.model < length parts
models-closed parts [] model placement none there = absurd there
models-closed parts (part ∷ some) zero placement none there =
    let known = or_none (first_some (unknown_word (model_named parts)) part.placings) (first_some (λ (p : Part Model). first_some (unknown_word (model_named parts)) p.placings) some) none in
    items-closed parts part 0 part.own.statements part.placings placement known.0 there
models-closed parts (part ∷ some) (suc model) placement none there =
    let known = or_none (first_some (unknown_word (model_named parts)) part.placings) (first_some (λ (p : Part Model). first_some (unknown_word (model_named parts)) p.placings) some) none in
    models-closed parts some model placement known.1 there

pub linked-closed : (parts : List (Part Model)) → first_unknown parts ≡ None → IsClosed (linked parts)
linked-closed parts none model placement there =
    omega (arith, models-closed parts parts model placement none there, length-map parts (linked_model parts))
