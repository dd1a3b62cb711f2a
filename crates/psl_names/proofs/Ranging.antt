-- The ranges of the indices behind texts.
use Rattle.std.proofs.Common.{◌≡◌, ℕ, suc, ◌+◌, ◌-◌, ◌<◌, Bool as Truth, true, false, cond, List, [], ◌∷◌, ◌++◌, drop, get_or, length, Option, None, Some, refl, sym, ap, ◌∙◌, arith}
use Rattle.std.proofs.lemmas.Map.Text.{btree_map_updates_str}
use Rattle.std.proofs.lemmas.Slice.Eq.{bytes_eq-Decides}
use Rattle.std.proofs.Math.Seq.{drop-cons}
use Rattle.std.specs.BTreeMap.{UpdatesBy}
use Rattle.std.specs.Cmp.Lexicographic.{slice_cmp}
use Rattle.std.specs.Borrow.{Bor}
use Rattle.std.specs.List.{flat_map}
use Rattle.std.specs.Option.{option_copied, option_map}
use Rattle.std.specs.Ordering.{nat_cmp}
use Rattle.std.specs.Prelude.{if◌then◌else◌}
use Rattle.std.specs.Str.{bytes_eq}
use Rattle.psl_tree.specs.declared.name.Name.{Name}
use Rattle.psl_layer_theory.specs.Buses.{Indexed, Indices as Range, bus_at, bus_named, indexed, indices_behind, widened, with_name}
use Rattle.psl_names.specs.Ranges.{Ranges, Tells, bus_told, option_range, range_at, range_in}
use Rattle.psl_names.specs.declared.buses.Indices.{Indices}

-- the ranges with one name more, which stands before the others
pub tells_more : (names : List Name) (old new : Ranges) (distance : ℕ) (name : Name) → distance < length names → name ≡ get_or names (length names - 1 - distance) name →
    Tells old (drop (length names - distance) names) → ((text : List ℕ) → range_at new text ≡ with_name text (indexed name.text) (range_at old text)) →
    Tells new (drop (length names - (distance + 1)) names)
tells_more names old new distance name inside is told added text =
    let place : ℕ = length names - 1 - distance in
    let behind : List Name = drop (length names - distance) names in
    let here : length names - (distance + 1) ≡ place = omega arith in
    let next : suc place ≡ length names - distance = omega arith in
    let rest : drop (length names - (distance + 1)) names ≡ name ∷ behind =
    ap (λ (n : ℕ). drop n names) here ∙ drop-cons names place name (omega arith) ∙ ap (λ (first : Name). first ∷ drop (suc place) names) (sym is)
    ∙ ap (λ (n : ℕ). name ∷ drop n names) next in
    added text ∙ ap (with_name text (indexed name.text)) (told text) ∙ ap (λ (all : List Name). indices_behind all text) (sym rest)

-- a range that was written, by whether it was written here
written : (here : Truth) (text query : List ℕ) (index : ℕ) (range : Indices) (old new : Option Indices) (at : Option Range) → new ≡ cond here (Some range) old →
    range_in range ≡ widened index at → (here ≡ true → at ≡ option_map range_in old) →
    option_map range_in new ≡ (if here then Some (widened index (option_map range_in old)) else option_map range_in old)
written true text query index range old new at is wide same = ap (option_map range_in) is ∙ ap Some (wide ∙ ap (widened index) (same refl))
written false text query index range old new at is wide same = ap (option_map range_in) is

-- the ranges with an index more
pub range_written : (old new : Ranges) (name : Indexed) (range : Indices) →
    UpdatesBy (λ x y. slice_cmp nat_cmp x.now y.now) (λ k. slice_cmp nat_cmp name.text k.now) old new (Some range) →
    range_in range ≡ widened name.index (range_at old name.text) → (query : List ℕ) → range_at new query ≡ with_name query (Some name) (range_at old query)
range_written old new name range updates wide query =
    let found = btree_map_updates_str name.text old new (Some range) updates query in
    written (bytes_eq name.text query) name.text query name.index range _ _ (range_at old name.text) found wide
    (λ equal. ap (range_at old) ((bytes_eq-Decides name.text query).0 equal))

-- a range that was found
pub copied_range : (found : Option (Bor Indices)) → option_range found ≡ option_map range_in (option_copied found)
copied_range None = refl
copied_range (Some range) = refl

-- the buses that the ranges tell are those of the names
bus-told : (ranges : Ranges) (names : List Name) (name : Option Indexed) → Tells ranges names → bus_told ranges name ≡ bus_named names name
bus-told ranges names None told = refl
bus-told ranges names (Some name) told = ap (bus_at name) (told name.text)

pub all_told : (ranges : Ranges) (names some : List Name) → Tells ranges names →
    flat_map (λ name. bus_told ranges (indexed name.text)) some ≡ flat_map (λ name. bus_named names (indexed name.text)) some
all_told ranges names [] told = refl
all_told ranges names (name ∷ more) told =
    ap (λ (front : List Name). front ++ flat_map (λ name. bus_told ranges (indexed name.text)) more) (bus-told ranges names (indexed name.text) told)
    ∙ ap (λ (rest : List Name). bus_named names (indexed name.text) ++ rest) (all_told ranges names more told)
