-- What is sought of the models of a text is found or not, and is one thing at the most.
use Rattle.std.proofs.Common.{◌≡◌, ℕ, zero, suc, ◌<◌, ◌≤◌, ◌⊎◌, inl, inr, List, [], ◌∷◌, length, slice_get, Option, None, Some, refl, sym, ap, ◌∙◌, subst, ⊎_elim, arith}
use Rattle.std.proofs.lemmas.Bool.{cases_lt, cases_eq}
use Rattle.std.proofs.lemmas.Option.{none-some}
use Rattle.netlist_order.specs.Graph.{Depends}
use Rattle.netlist_order.proofs.Cycles.{Decided, depends-decided}
use Rattle.blif_flattening.specs.declared.model.Model.{Model}
use Rattle.blif_flattening.specs.declared.model.Placement.{Placement}
use Rattle.blif_flattening.specs.declared.model.TheConstants.{DEEPEST}
use Rattle.blif_flattening.specs.Hierarchy.{items_of, placement_of, placements_in}
use Rattle.blif_hierarchy.specs.declared.place.PlacementAt.{PlacementAt}
use Rattle.blif_hierarchy.specs.Depth.{depth_of, IsTooDeep}
use Rattle.blif_hierarchy.specs.First.{Finds}
use Rattle.blif_hierarchy.specs.Order.{model_graph, IsRecursive}
use Rattle.blif_hierarchy.specs.declared.cost.Scale.{Scale}
use Rattle.blif_hierarchy.specs.Sums.{bytes_with, FindsLong, FindsPast, FindsWith, instances_with, IsLong, IsPast, placements_of, signals_with, size_with}
use Rattle.blif_flat.specs.Flat.{Models}
use Rattle.blif_reader.specs.Faults.{AreFinite, SeeksLong}
use Rattle.blif_reader.proofs.Asking.{some-found}

get-below : {X : Type 0} (xs : List X) (i : ℕ) (x : X) → slice_get xs i ≡ Some x → i < length xs
get-below [] i x is = absurd (none-some x is)
get-below (y ∷ xs) zero x is = omega arith
get-below (y ∷ xs) (suc i) x is = omega (arith, get-below xs i x is)

-- of so many placements of the top there is one first at the most of which something is so
with-one : (Holds : ℕ → Type 0) (count : ℕ) (a b : Option ℕ) → FindsWith count Holds a → FindsWith count Holds b → a ≡ b
with-one Holds count None None first second = refl
with-one Holds count None (Some k) first second = absurd (first k second.there second.past)
with-one Holds count (Some k) None first second = absurd (second k first.there first.past)
with-one Holds count (Some k) (Some j) first second =
    ⊎_elim (λ below. absurd (second.first k below first.past))
    (λ upper. ⊎_elim (λ below. absurd (first.first j below second.past)) (λ lower. ap Some (let same : k ≡ j = omega arith in same)) (cases_lt j k))
    (cases_lt k j)

-- and where it is decided of each, there is one, or none
module _ (Holds : ℕ → Type 0) (decided : (k : ℕ) → Decided (Holds k)) where
  first_with : (count : ℕ) → ((k : ℕ) → k < count → Holds k → ⊥) ⊎ ((k : ℕ) × (k < count) × Holds k × ((j : ℕ) → j < k → Holds j → ⊥))
  first_with zero = inl (λ k lt is. omega arith)
  first_with (suc count) =
      ⊎_elim
      (λ none. ⊎_elim (λ here. inr (count, omega arith, here, none))
      (λ not_here. inl (λ k lt is. ⊎_elim (λ below. none k below is)
      (λ after. let last : k ≡ count = omega arith in not_here (subst Holds last is)) (cases_lt k count)))
      (decided count))
      (λ found. inr (found.0, omega (arith, found.1), found.2, found.3)) (first_with count)

  with-some : (count : ℕ) → (found : Option ℕ) × FindsWith count Holds found
  with-some count = ⊎_elim (λ none. (None, none)) (λ found. (Some found.0, record { there = found.1; past = found.2; first = found.3 })) (first_with count)

module _ {Line : Type 0} (models : List (Model Line)) where
  -- a placement is there, or not
  there : (found : Option Placement) → ((placement : Placement) × (found ≡ Some placement)) ⊎ (found ≡ None)
  there (Some placement) = inl (placement, refl)
  there None = inr refl

  same_placement : (one other : Placement) (found : Option Placement) → found ≡ Some one → found ≡ Some other → one ≡ other
  same_placement one other found first second = let both : Some one ≡ Some other = sym first ∙ second in cc

  recursive : (model k : ℕ) → Decided (IsRecursive models model k)
  recursive model k =
      ⊎_elim
      (λ is. ⊎_elim
      (λ itself. inl (record { placement = is.0; there = is.1; back = inl itself }))
      (λ other. ⊎_elim
      (λ back. inl (record { placement = is.0; there = is.1; back = inr back }))
      (λ never. inr (λ found.
      let same = same_placement found.placement is.0 (placement_of models model k) found.there is.1 in
      ⊎_elim (λ itself. other (subst (λ (p : Placement). p.model ≡ model) same itself))
      (λ back. never (subst (λ (p : Placement). Depends (model_graph models) p.model model) same back)) found.back))
      (depends-decided (model_graph models) is.0.model model))
      (cases_eq is.0.model model))
      (λ none. inr (λ found. none-some found.placement (sym none ∙ found.there)))
      (there (placement_of models model k))

  deep : (model k : ℕ) → Decided (IsTooDeep models model k)
  deep model k =
      ⊎_elim
      (λ is. ⊎_elim
      (λ below. inr (λ found.
      let same = same_placement found.placement is.0 (placement_of models model k) found.there is.1 in
      let deep : DEEPEST ≤ depth_of models DEEPEST is.0.model = subst (λ (p : Placement). DEEPEST ≤ depth_of models DEEPEST p.model) same found.deep in
      omega (arith, below, deep)))
      (λ past. inl (record { placement = is.0; there = is.1; deep = past }))
      (cases_lt (depth_of models DEEPEST is.0.model) DEEPEST))
      (λ none. inr (λ found. none-some found.placement (sym none ∙ found.there)))
      (there (placement_of models model k))

  -- a placement is one of a model
  placed-low : (all : List (Model Line)) (model k : ℕ) (placement : Placement) → placement_of all model k ≡ Some placement → model < length all
  placed-low [] model k placement is = absurd (none-some placement is)
  placed-low (first ∷ all) zero k placement is = omega arith
  placed-low (first ∷ all) (suc model) k placement is = omega (arith, placed-low all model k placement is)

  pub recursive-some : (found : Option PlacementAt) × Finds (IsRecursive models) found
  recursive-some =
      some-found (IsRecursive models) recursive (λ model. length (placements_in (items_of models model))) (length models)
      (λ model k is. placed-low models model k is.placement is.there)
      (λ model k is. get-below (placements_in (items_of models model)) k is.placement is.there)

  pub deep-some : (found : Option PlacementAt) × Finds (IsTooDeep models) found
  deep-some =
      some-found (IsTooDeep models) deep (λ model. length (placements_in (items_of models model))) (length models)
      (λ model k is. placed-low models model k is.placement is.there)
      (λ model k is. get-below (placements_in (items_of models model)) k is.placement is.there)

  -- the first placement of the top with which a limit is passed
  past : (scale : Scale) (k : ℕ) → Decided (IsPast models scale k)
  past scale k =
      ⊎_elim (λ signals. inl (inl signals))
      (λ few. ⊎_elim (λ instances. inl (inr (inl instances)))
      (λ fewer. ⊎_elim (λ size. inl (inr (inr size)))
      (λ small. inr (λ is. ⊎_elim (λ signals. omega (arith, signals, few))
      (λ rest. ⊎_elim (λ instances. omega (arith, instances, fewer)) (λ size. omega (arith, size, small)) rest) is))
      (cases_lt scale.size (size_with models scale.starts (suc k))))
      (cases_lt scale.count (instances_with models (suc k))))
      (cases_lt scale.count (signals_with models (suc k)))

  pub past-some : (scale : Scale) → (found : Option ℕ) × FindsPast models scale found
  past-some scale = with-some (IsPast models scale) (past scale) (length (placements_of models 0))

  pub past-one : (scale : Scale) (a b : Option ℕ) → FindsPast models scale a → FindsPast models scale b → a ≡ b
  past-one scale a b first second = with-one (IsPast models scale) (length (placements_of models 0)) a b first second

  -- and that with which lines alone are too long
  long : (scale : Scale) (k : ℕ) → Decided (IsLong models scale k)
  long scale k = ⊎_elim (λ more. inl more) (λ few. inr (λ is. omega (arith, few, is))) (cases_lt scale.size (bytes_with models scale.starts (suc k)))

  found-long : (scale : Scale) → (found : Option ℕ) × FindsLong models scale found
  found-long scale = with-some (IsLong models scale) (long scale) (length (placements_of models 0))

none_found : (Holds : ℕ → ℕ → Type 0) (found : Option PlacementAt) → Finds Holds found → Decided (Finds Holds None)
none_found Holds None finds = inl finds
none_found Holds (Some at) finds = inr (λ none. none at.model at.placement finds.holds)

module _ (models : Models) where
  -- models contain themselves or are too deep, or they do not and are not
  finite : Decided (AreFinite models)
  finite =
      ⊎_elim
      (λ never. ⊎_elim (λ low. inl (record { finite = never; shallow = low })) (λ deep. inr (λ are. deep are.shallow))
      (none_found (IsTooDeep models) (deep-some models).0 (deep-some models).1))
      (λ back. inr (λ are. back are.finite))
      (none_found (IsRecursive models) (recursive-some models).0 (recursive-some models).1)

  -- the first placement of the top with which lines are too long, where they do not
  pub long-some : (scale : Scale) → (found : Option ℕ) × SeeksLong models scale found
  long-some scale = ⊎_elim (λ are. by_found (found-long models scale).0 (found-long models scale).1 are) (λ not. (None, λ are. absurd (not are))) finite
    where
      by_found : (found : Option ℕ) → FindsLong models scale found → AreFinite models → (found : Option ℕ) × SeeksLong models scale found
      by_found None finds are = (None, λ again. finds)
      by_found (Some k) finds are = (Some k, (are, finds))

  pub long-one : (scale : Scale) (a b : Option ℕ) → SeeksLong models scale a → SeeksLong models scale b → a ≡ b
  long-one scale None None first second = refl
  long-one scale None (Some k) first second = absurd (first second.0 k second.1.there second.1.past)
  long-one scale (Some k) None first second = absurd (second first.0 k first.1.there first.1.past)
  long-one scale (Some k) (Some j) first second = with-one (IsLong models scale) (length (placements_of models 0)) (Some k) (Some j) first.1 second.1
