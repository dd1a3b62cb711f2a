-- What models place is the same without all else: so is which of them contain themselves, how deep they are, and how long
-- the lines of all instances are.
use Rattle.std.proofs.Common.{◌≡◌, ℕ, zero, suc, ◌+◌, ◌-◌, ◌<◌, ◌≤◌, inl, inr, List, [], ◌∷◌, length, map, take, Option, None, Some, refl, sym, ap, ◌∙◌, subst, ⊎_elim, arith}
use Rattle.std.specs.Prelude.{max, slice_get, sum_by}
use Rattle.std.specs.Option.{option_map}
use Rattle.std.proofs.lemmas.List.{length-map}
use Rattle.std.proofs.lemmas.List.Sums.{sum_by-cons}
use Rattle.netlist_order.specs.Graph.{Depends}
use Rattle.blif_flattening.specs.declared.model.Item.{Item}
use Rattle.blif_flattening.specs.declared.model.Item.TheVariants.{Place}
use Rattle.blif_flattening.specs.declared.model.Model.{Model}
use Rattle.blif_flattening.specs.declared.model.Placement.{Placement}
use Rattle.blif_flattening.specs.declared.model.TheConstants.{DEEPEST}
use Rattle.blif_flattening.specs.Hierarchy.{items_of, placement_of, placements_in}
use Rattle.blif_flattening.specs.Members.{Among}
use Rattle.blif_hierarchy.specs.declared.cost.Scale.{Scale}
use Rattle.blif_hierarchy.specs.declared.place.PlacementAt.{PlacementAt}
use Rattle.blif_flattening.proofs.Members.{from_map}
use Rattle.blif_hierarchy.proofs.Depths.{placement-among}
use Rattle.blif_hierarchy.specs.Depth.{depth_of, IsTooDeep, largest}
use Rattle.blif_hierarchy.specs.First.{Finds, IsClosed}
use Rattle.blif_hierarchy.specs.Order.{IsRecursive, model_graph, placed_by}
use Rattle.blif_hierarchy.specs.Sums.{bytes_below, bytes_with, FindsLong, FindsWith, IsLong, line_bytes, placements_of}
use Rattle.blif_linking.specs.Bare.{bare, bare_item, bare_model, bare_placement}

-- the first thing of which something is so, of which something else is so just then
pub finds-as : (Holds Other : ℕ → ℕ → Type 0) (found : Option PlacementAt) → ((model k : ℕ) → Holds model k → Other model k)
    → ((model k : ℕ) → Other model k → Holds model k) → Finds Holds found → Finds Other found
finds-as Holds Other None there back finds = λ model k other. finds model k (back model k other)
finds-as Holds Other (Some found) there back finds = record {
  holds = there found.model found.placement finds.holds;
  first = λ model k before other. finds.first model k before (back model k other);
}

-- and the same of placements of the top
with-as : (Holds Other : ℕ → Type 0) (count size : ℕ) (found : Option ℕ) → count ≡ size → ((k : ℕ) → Holds k → Other k) → ((k : ℕ) → Other k → Holds k)
    → FindsWith count Holds found → FindsWith size Other found
with-as Holds Other count size None same there back finds = λ k below other. finds k (omega (arith, below, same)) (back k other)
with-as Holds Other count size (Some k) same there back finds = record {
  there = omega (arith, finds.there, same);
  past = there k finds.past;
  first = λ earlier before other. finds.first earlier before (back earlier other);
}

-- lists of placements
get-bare : (placements : List Placement) (k : ℕ) → slice_get (map bare_placement placements) k ≡ option_map bare_placement (slice_get placements k)
get-bare [] k = refl
get-bare (placement ∷ placements) zero = refl
get-bare (placement ∷ placements) (suc k) = get-bare placements k

models-bare : (placements : List Placement) → map (λ (p : Placement). p.model) (map bare_placement placements) ≡ map (λ (p : Placement). p.model) placements
models-bare [] = refl
models-bare (placement ∷ placements) = ap (λ (rest : List ℕ). placement.model ∷ rest) (models-bare placements)

by-map : (found : Option Placement) (placement : Placement) → option_map bare_placement found ≡ Some placement
    → (other : Placement) × (found ≡ Some other) × (other.model ≡ placement.model)
by-map None placement is = cc
by-map (Some other) placement is = let same : bare_placement other ≡ placement = cc in (other, refl, ap (λ (p : Placement). p.model) same)

largest-bare : (before after : ℕ → ℕ) → ((n : ℕ) → before n ≡ after n) → (placements : List Placement)
    → largest (map (λ (p : Placement). before p.model) (map bare_placement placements)) ≡ largest (map (λ (p : Placement). after p.model) placements)
largest-bare before after same [] = refl
largest-bare before after same (placement ∷ placements) =
    ap (λ n. max n (largest (map (λ (p : Placement). before p.model) (map bare_placement placements)))) (same placement.model)
    ∙ ap (max (after placement.model)) (largest-bare before after same placements)

take-bare : (count : ℕ) (placements : List Placement) → take count (map bare_placement placements) ≡ map bare_placement (take count placements)
take-bare zero placements = refl
take-bare (suc count) [] = refl
take-bare (suc count) (p ∷ placements) = ap (λ (rest : List Placement). bare_placement p ∷ rest) (take-bare count placements)

-- sums over them
sums-bare : (before after : Placement → ℕ) → ((p : Placement) → before (bare_placement p) ≡ after p) → (placements : List Placement)
    → sum_by before (map bare_placement placements) ≡ sum_by after placements
sums-bare before after same [] = refl
sums-bare before after same (placement ∷ placements) =
    omega (
      arith,
      sum_by-cons before (bare_placement placement) (map bare_placement placements),
      sum_by-cons after placement placements,
      same placement,
      sums-bare before after same placements,
    )

placed-bare : (Line : Type 0) (placements : List Placement) → placements_in {Line = Line} (map bare_item placements) ≡ map bare_placement placements
placed-bare Line [] = refl
placed-bare Line (placement ∷ placements) = ap (λ (rest : List Placement). bare_placement placement ∷ rest) (placed-bare Line placements)

module _ {Line : Type 0} where
  pub places-bare : (models : List (Model Line)) (model : ℕ) → placements_of (bare models) model ≡ map bare_placement (placements_of models model)
  places-bare [] model = refl
  places-bare (first ∷ models) zero = placed-bare Line (placements_in first.items)
  places-bare (first ∷ models) (suc model) = places-bare models model

  placement-bare : (models : List (Model Line)) (model k : ℕ) → placement_of (bare models) model k ≡ option_map bare_placement (placement_of models model k)
  placement-bare models model k = ap (λ (placements : List Placement). slice_get placements k) (places-bare models model) ∙ get-bare (placements_of models model) k

  -- a placement that is there, with its connections or without
  there-bare : (models : List (Model Line)) (model k : ℕ) (placement : Placement) → placement_of models model k ≡ Some placement
      → placement_of (bare models) model k ≡ Some (bare_placement placement)
  there-bare models model k placement is = placement-bare models model k ∙ ap (option_map bare_placement) is

  there-whole : (models : List (Model Line)) (model k : ℕ) (placement : Placement) → placement_of (bare models) model k ≡ Some placement
      → (other : Placement) × (placement_of models model k ≡ Some other) × (other.model ≡ placement.model)
  there-whole models model k placement is = by-map (placement_of models model k) placement (sym (placement-bare models model k) ∙ is)

  -- which model places which
  graph-bare : (models : List (Model Line)) → model_graph (bare models) ≡ model_graph models
  graph-bare [] = refl
  graph-bare (first ∷ models) =
      ap (λ (placed : List ℕ). map (λ (n : ℕ). Some n) placed ∷ model_graph (bare models))
      (ap (map (λ (p : Placement). p.model)) (placed-bare Line (placements_in first.items)) ∙ models-bare (placements_in first.items))
      ∙ ap (λ (rest : List (List (Option ℕ))). map (λ (n : ℕ). Some n) (placed_by first) ∷ rest) (graph-bare models)

  recursive-whole : (models : List (Model Line)) (model k : ℕ) → IsRecursive (bare models) model k → IsRecursive models model k
  recursive-whole models model k is =
      let other = there-whole models model k is.placement is.there in
      record {
        placement = other.0;
        there = other.1;
        back = ⊎_elim (λ itself. inl (other.2 ∙ itself))
            (λ back. inr (subst (λ (n : ℕ). Depends (model_graph models) n model) (sym other.2) (subst (λ graph. Depends graph is.placement.model model) (graph-bare models) back))) is.back;
      }

  recursive-bare : (models : List (Model Line)) (model k : ℕ) → IsRecursive models model k → IsRecursive (bare models) model k
  recursive-bare models model k is = record {
    placement = bare_placement is.placement;
    there = there-bare models model k is.placement is.there;
    back = ⊎_elim (λ itself. inl itself) (λ back. inr (subst (λ graph. Depends graph is.placement.model model) (sym (graph-bare models)) back)) is.back;
  }

  pub finds-recursive : (models : List (Model Line)) (found : Option PlacementAt) → Finds (IsRecursive (bare models)) found → Finds (IsRecursive models) found
  finds-recursive models found finds = finds-as (IsRecursive (bare models)) (IsRecursive models) found (recursive-whole models) (recursive-bare models) finds

  -- how deep models are
  depth-bare : (models : List (Model Line)) (most model : ℕ) → depth_of (bare models) most model ≡ depth_of models most model
  depth-bare models zero model = refl
  depth-bare models (suc most) model =
      ap suc (ap (λ (placements : List Placement). largest (map (λ (p : Placement). depth_of (bare models) most p.model) placements)) (places-bare models model)
      ∙ largest-bare (depth_of (bare models) most) (depth_of models most) (depth-bare models most) (placements_of models model))

  deep-whole : (models : List (Model Line)) (model k : ℕ) → IsTooDeep (bare models) model k → IsTooDeep models model k
  deep-whole models model k is =
      let other = there-whole models model k is.placement is.there in
      let depth : depth_of (bare models) DEEPEST is.placement.model ≡ depth_of models DEEPEST other.0.model =
      depth-bare models DEEPEST is.placement.model ∙ ap (depth_of models DEEPEST) (sym other.2) in
      record { placement = other.0; there = other.1; deep = subst (λ n. DEEPEST ≤ n) depth is.deep }

  deep-bare : (models : List (Model Line)) (model k : ℕ) → IsTooDeep models model k → IsTooDeep (bare models) model k
  deep-bare models model k is = record {
    placement = bare_placement is.placement;
    there = there-bare models model k is.placement is.there;
    deep = subst (λ n. DEEPEST ≤ n) (sym (depth-bare models DEEPEST is.placement.model)) is.deep;
  }

  pub finds-deep : (models : List (Model Line)) (found : Option PlacementAt) → Finds (IsTooDeep (bare models)) found → Finds (IsTooDeep models) found
  finds-deep models found finds = finds-as (IsTooDeep (bare models)) (IsTooDeep models) found (deep-whole models) (deep-bare models) finds

  -- how long lines are below models
  below-bare : (models : List (Model Line)) (starts : List ℕ) (levels model : ℕ) → bytes_below (bare models) starts levels model ≡ bytes_below models starts levels model
  below-bare models starts zero model = refl
  below-bare models starts (suc levels) model =
      ap (sum_by (λ (p : Placement). line_bytes starts p.model + bytes_below (bare models) starts levels p.model)) (places-bare models model)
      ∙ sums-bare (λ p. line_bytes starts p.model + bytes_below (bare models) starts levels p.model) (λ p. line_bytes starts p.model + bytes_below models starts levels p.model)
      (λ p. ap (λ n. line_bytes starts p.model + n) (below-bare models starts levels p.model)) (placements_of models model)

  with-bare : (models : List (Model Line)) (starts : List ℕ) (count : ℕ) → bytes_with (bare models) starts count ≡ bytes_with models starts count
  with-bare models starts count =
      ap (λ n. line_bytes starts 0 + n)
      (ap (sum_by (λ (p : Placement). line_bytes starts p.model + bytes_below (bare models) starts (DEEPEST - 1) p.model)) (ap (take count) (places-bare models 0) ∙ take-bare count (placements_of models 0))
      ∙ sums-bare (λ p. line_bytes starts p.model + bytes_below (bare models) starts (DEEPEST - 1) p.model) (λ p. line_bytes starts p.model + bytes_below models starts (DEEPEST - 1) p.model)
      (λ p. ap (λ n. line_bytes starts p.model + n) (below-bare models starts (DEEPEST - 1) p.model)) (take count (placements_of models 0)))

  pub finds-long : (models : List (Model Line)) (scale : Scale) (found : Option ℕ) → FindsLong (bare models) scale found → FindsLong models scale found
  finds-long models scale found finds =
      with-as (IsLong (bare models) scale) (IsLong models scale) (length (placements_of (bare models) 0)) (length (placements_of models 0)) found
      (ap length (places-bare models 0) ∙ length-map (placements_of models 0) bare_placement)
      (λ k long. subst (λ n. scale.size < n) (with-bare models scale.starts (suc k)) long)
      (λ k long. subst (λ n. scale.size < n) (sym (with-bare models scale.starts (suc k))) long) finds

  items-bare : (models : List (Model Line)) (model : ℕ) → items_of (bare models) model ≡ map bare_item (placements_of models model)
  items-bare [] model = refl
  items-bare (first ∷ models) zero = refl
  items-bare (first ∷ models) (suc model) = items-bare models model

  from-bare : (models : List (Model Line)) (model : ℕ) (placement : Placement) → Among (Place placement) (items_of (bare models) model)
      → (other : Placement) × Among (Place other) (items_of models model) × (bare_placement other ≡ placement)
  from-bare models model placement there =
      let from = from_map {Y = Item Line} bare_item (Place placement) (placements_of models model) (subst (λ (items : List (Item Line)). Among (Place placement) items) (items-bare models model) there) in
      let same : ◌≡◌ {A = Item Line} (Place (bare_placement from.0)) (Place placement) = from.2 in
      (from.0, placement-among (items_of models model) from.0 from.1, let is : bare_placement from.0 ≡ placement = cc in is)

  -- what is placed is there
  pub closed-bare : (models : List (Model Line)) → IsClosed models → IsClosed (bare models)
  closed-bare models closed = λ model placement there.
      let from = from-bare models model placement there in
      let below = closed model from.0 from.1 in
      omega (arith, below, ap (λ (p : Placement). p.model) from.2, length-map models bare_model)
