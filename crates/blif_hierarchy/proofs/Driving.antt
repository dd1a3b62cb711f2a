-- The flat lines of a hierarchy drive each of its signals just once.
use Rattle.std.proofs.Common.{◌≡◌, ℕ, zero, suc, ◌+◌, ◌<◌, List, [], ◌∷◌, ◌++◌, length, map, slice_get, Some, refl, sym, ap, ◌∙◌, subst, arith}
use Rattle.std.proofs.lemmas.List.{map-append}
use Rattle.std.proofs.lemmas.List.Concat.{flat_map-append}
use Rattle.blif_flattening.specs.declared.model.Placement.{Placement}
use Rattle.blif_flattening.specs.declared.model.Item.{Item}
use Rattle.blif_flattening.specs.declared.model.Item.TheVariants.{Own, Place}
use Rattle.blif_flattening.specs.declared.model.Model.{Model}
use Rattle.blif_flattening.specs.declared.model.Signal.{Signal}
use Rattle.blif_flattening.specs.declared.model.TheConstants.{DEEPEST}
use Rattle.blif_flattening.specs.Hierarchy.{Path, Placed, items_of, items_at, model_at, placed_model, placements_in, owner, IsInstance, lines_by, expand, mentioned_by, mentioned}
use Rattle.blif_flattening.specs.Instances.{names_of}
use Rattle.blif_flattening.specs.Numbers.{same_signal}
use Rattle.blif_flattening.proofs.Visiting.{Among-placement}
use Rattle.blif_hierarchy.specs.Drivers.{is_input, actuals_driven, driven_in, IsDriven}
use Rattle.blif_hierarchy.proofs.Counting.{count_where-append, times_of}
use Rattle.blif_hierarchy.proofs.Connecting.{placement-drives}
use Rattle.blif_hierarchy.proofs.Owning.{own_signals, listed_by, listed_below}

module _ (Line : Type 0) (inputs drives : Line → List ℕ) (models : List (Model Line)) (signal : Signal) where
  -- how often what lines drive is this signal
  abbrev pub drives-signal : List (Placed Line) → ℕ
  drives-signal lines = times_of signal (mentioned drives models lines)

  lines-append : (one other : List (Placed Line)) → drives-signal (one ++ other) ≡ drives-signal one + drives-signal other
  lines-append one other =
      ap (times_of signal) (flat_map-append (mentioned_by drives models) one other)
      ∙ count_where-append (same_signal signal) (mentioned drives models one) (mentioned drives models other)

  owned-append : (path : Path) (one other : List ℕ)
      → times_of signal (map (owner models path) (one ++ other)) ≡ times_of signal (map (owner models path) one) + times_of signal (map (owner models path) other)
  owned-append path one other =
      ap (times_of signal) (map-append (owner models path) one other)
      ∙ count_where-append (same_signal signal) (map (owner models path) one) (map (owner models path) other)

  -- what a placement and the instances below it drive
  abbrev Below : (Path → List (Placed Line)) → (ℕ → Path → List Signal) → Path → ℕ → Placement → Type 0
  Below lines below path k placement =
      drives-signal (lines (k ∷ path))
      ≡ times_of signal (map (owner models path) (actuals_driven (is_input inputs models placement.model) placement.connections))
      + times_of signal (own_signals placement.connections (k ∷ path) (names_of models placement.model) ++ below placement.model (k ∷ path))

  by-items : (lines : Path → List (Placed Line)) (below : ℕ → Path → List Signal) (path : Path) (k : ℕ) (items : List (Item Line))
      → ((j : ℕ) (placement : Placement) → slice_get (placements_in items) j ≡ Some placement → Below lines below path (k + j) placement)
      → drives-signal (lines_by lines path k items)
      ≡ times_of signal (map (owner models path) (driven_in inputs drives models items)) + times_of signal (listed_by models below path k (placements_in items))
  by-items lines below path k [] each = refl
  by-items lines below path k (Own line ∷ items) each =
      let rest = by-items lines below path k items each in
      let here = count_where-append (same_signal signal) (map (owner models path) (drives line)) (mentioned drives models (lines_by lines path k items)) in
      omega (arith, here, rest, owned-append path (drives line) (driven_in inputs drives models items))
  by-items lines below path k (Place placement ∷ items) each =
      let first : Below lines below path k placement =
      (let at : k + 0 ≡ k = omega arith in subst (λ n. Below lines below path n placement) at (each 0 placement refl)) in
      let later : (j : ℕ) (other : Placement) → slice_get (placements_in items) j ≡ Some other → Below lines below path (suc k + j) other =
      λ j other is. (let at : k + suc j ≡ suc k + j = omega arith in subst (λ n. Below lines below path n other) at (each (suc j) other is)) in
      by_first placement first (by-items lines below path (suc k) items later)
    where
      by_first : (first : Placement) → Below lines below path k first
          → drives-signal (lines_by lines path (suc k) items)
          ≡ times_of signal (map (owner models path) (driven_in inputs drives models items)) + times_of signal (listed_by models below path (suc k) (placements_in items))
          → drives-signal (lines_by lines path k (Place first ∷ items))
          ≡ times_of signal (map (owner models path) (driven_in inputs drives models (Place first ∷ items)))
          + times_of signal (listed_by models below path k (placements_in (Place first ∷ items)))
      by_first first here rest =
          let own = own_signals first.connections (k ∷ path) (names_of models first.model) ++ below first.model (k ∷ path) in
          omega (
            arith,
            here,
            rest,
            lines-append (lines (k ∷ path)) (lines_by lines path (suc k) items),
            owned-append path (actuals_driven (is_input inputs models first.model) first.connections) (driven_in inputs drives models items),
            count_where-append (same_signal signal) own (listed_by models below path (suc k) (placements_in items)),
          )

  module _ (is : IsDriven inputs drives models) (shallow : (path : Path) → IsInstance models path → length path < DEEPEST) where
    -- what the lines of an instance and of those below it drive: the names that its model drives, and what is listed below
    pub by-levels : (levels : ℕ) (path : Path) → IsInstance models path → length path + levels ≡ DEEPEST
        → drives-signal (expand models levels path)
        ≡ times_of signal (map (owner models path) (driven_in inputs drives models (items_at models path)))
        + times_of signal (listed_below models levels (model_at models path) path)
    by-levels zero path instance deep = absurd (let less = shallow path instance in omega (arith, less))
    by-levels (suc levels) path instance deep =
        by-items (expand models levels) (listed_below models levels) path 0 (items_at models path)
        (λ j placement found. each j placement found (by-levels levels (j ∷ path) (instance, (placement, found)) (omega arith)))
      where
        each : (j : ℕ) (placement : Placement) → slice_get (placements_in (items_at models path)) j ≡ Some placement
            → drives-signal (expand models levels (j ∷ path))
            ≡ times_of signal (map (owner models (j ∷ path)) (driven_in inputs drives models (items_at models (j ∷ path))))
            + times_of signal (listed_below models levels (model_at models (j ∷ path)) (j ∷ path))
            → Below (expand models levels) (listed_below models levels) path (0 + j) placement
        each j placement found inner =
            let at : 0 + j ≡ j = omega arith in
            let model : model_at models (j ∷ path) ≡ placement.model = ap placed_model found in
            let same : drives-signal (expand models levels (j ∷ path))
            ≡ times_of signal (map (owner models (j ∷ path)) (driven_in inputs drives models (items_of models placement.model)))
            + times_of signal (listed_below models levels placement.model (j ∷ path)) =
            subst (λ m. drives-signal (expand models levels (j ∷ path))
            ≡ times_of signal (map (owner models (j ∷ path)) (driven_in inputs drives models (items_of models m))) + times_of signal (listed_below models levels m (j ∷ path)))
            model inner in
            let own = own_signals placement.connections (j ∷ path) (names_of models placement.model) in
            let drives_it = placement-drives Line inputs drives models is path j placement found
            (model_at models path, Among-placement (items_at models path) j placement found) signal in
            subst (λ n. Below (expand models levels) (listed_below models levels) path n placement) (sym at)
            (omega (arith, same, drives_it, count_where-append (same_signal signal) own (listed_below models levels placement.model (j ∷ path))))
