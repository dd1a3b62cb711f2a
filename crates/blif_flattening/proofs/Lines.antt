-- The flat lines of a hierarchy are those of its instances.
use Rattle.std.proofs.Common.{◌≡◌, ℕ, zero, suc, ◌+◌, ◌-◌, ◌<◌, inl, inr, List, [], ◌∷◌, length, slice_get, Some, refl, sym, ap, subst, ⊎_elim, arith}
use Rattle.blif_flattening.specs.declared.model.Placement.{Placement}
use Rattle.blif_flattening.specs.declared.model.Item.{Item}
use Rattle.blif_flattening.specs.declared.model.Item.TheVariants.{Own, Place}
use Rattle.blif_flattening.specs.declared.model.Model.{Model}
use Rattle.blif_flattening.specs.declared.model.TheConstants.{DEEPEST}
use Rattle.blif_flattening.specs.Hierarchy.{Path, Placed, placements_in, items_at, placement_at, IsInstance, lines_by, expand, flat_lines}
use Rattle.blif_flattening.specs.Members.{Among}
use Rattle.blif_flattening.proofs.Members.{Among-left, Among-right, from_append}

-- a line of the list, and what stands in place of a placement of it
own_line : {Line : Type 0} (below : Path → List (Placed Line)) (path : Path) (k : ℕ) (line : Line) (items : List (Item Line))
    → Among (Own line) items → Among (path, line) (lines_by below path k items)
own_line below path k line [] none = absurd none
own_line {Line} below path k line (Own other ∷ items) there =
    ⊎_elim (λ is. inl (ap (λ (l : Line). let placed : Placed Line = (path, l) in placed) (let same : other ≡ line = cc in same)))
    (λ later. inr (own_line below path k line items later)) there
own_line below path k line (Place placement ∷ items) there =
    ⊎_elim (λ is. cc) (λ later. Among-right (path, line) (below (k ∷ path)) (lines_by below path (suc k) items) (own_line below path (suc k) line items later)) there

below_line : {Line : Type 0} (below : Path → List (Placed Line)) (path : Path) (k j : ℕ) (placement : Placement) (placed : Placed Line) (items : List (Item Line))
    → slice_get (placements_in items) j ≡ Some placement → Among placed (below ((k + j) ∷ path)) → Among placed (lines_by below path k items)
below_line below path k j placement placed [] is there = cc
below_line below path k j placement placed (Own line ∷ items) is there = inr (below_line below path k j placement placed items is there)
below_line below path k zero placement placed (Place other ∷ items) is there =
    let same : k + 0 ≡ k = omega arith in
    Among-left placed (below (k ∷ path)) (lines_by below path (suc k) items) (subst (λ n. Among placed (below (n ∷ path))) same there)
below_line below path k (suc j) placement placed (Place other ∷ items) is there =
    let same : k + suc j ≡ suc k + j = omega arith in
    Among-right placed (below (k ∷ path)) (lines_by below path (suc k) items)
    (below_line below path (suc k) j placement placed items is (subst (λ n. Among placed (below (n ∷ path))) same there))

-- what an instance has below it, the top has
rises : {Line : Type 0} (models : List (Model Line)) (path : Path) (levels : ℕ) → IsInstance models path → length path + levels ≡ DEEPEST
    → (placed : Placed Line) → Among placed (expand models levels path) → Among placed (flat_lines models)
unfolding flat_lines
rises models [] levels instance deep placed there = let all : levels ≡ DEEPEST = omega arith in subst (λ n. Among placed (expand models n [])) all there
rises models (k ∷ path) levels instance deep placed there =
    let step : Among placed (expand models (suc levels) path) =
    below_line (expand models levels) path 0 k instance.1.0 placed (items_at models path) instance.1.1
    (let same : 0 + k ≡ k = omega arith in subst (λ n. Among placed (expand models levels (n ∷ path))) (sym same) there) in
    rises models path (suc levels) instance.0 (omega arith) placed step

pub has_line : {Line : Type 0} (models : List (Model Line)) (path : Path) (line : Line) → IsInstance models path → length path < DEEPEST
    → Among (Own line) (items_at models path) → Among (path, line) (flat_lines models)
has_line models path line instance shallow there =
    let levels : ℕ = DEEPEST - suc (length path) in
    rises models path (suc levels) instance (omega arith) (path, line) (own_line (expand models levels) path 0 line (items_at models path) there)

-- and each flat line is one of an instance
pub IsLineOf : {Line : Type 0} → List (Model Line) → Placed Line → Type 0
IsLineOf models placed = IsInstance models placed.0 × Among (Own placed.1) (items_at models placed.0)

-- among the items from some place on, each is one of the model, and each placement has its number
record IsRest {Line : Type 0} (models : List (Model Line)) (path : Path) (k : ℕ) (items : List (Item Line)) : Type 0 where
  lines : (line : Line) → Among (Own line) items → Among (Own line) (items_at models path)
  placements : (j : ℕ) (placement : Placement) → slice_get (placements_in items) j ≡ Some placement → placement_at models path (k + j) ≡ Some placement

by_items : {Line : Type 0} (models : List (Model Line)) (below : Path → List (Placed Line)) (path : Path) → IsInstance models path
    → ((k : ℕ) (placement : Placement) → placement_at models path k ≡ Some placement → (placed : Placed Line) → Among placed (below (k ∷ path)) → IsLineOf models placed)
    → (k : ℕ) (items : List (Item Line)) → IsRest models path k items → (placed : Placed Line) → Among placed (lines_by below path k items) → IsLineOf models placed
unfolding IsLineOf
by_items models below path instance each k [] rest placed none = absurd none
by_items {Line} models below path instance each k (Own line ∷ items) rest placed there =
    ⊎_elim (λ is. subst (λ (p : Placed Line). IsLineOf models p) is (instance, rest.lines line (inl refl)))
    (λ later. by_items models below path instance each k items
    (record { lines = λ other among. rest.lines other (inr among); placements = λ j placement is. rest.placements j placement is }) placed later)
    there
by_items models below path instance each k (Place placement ∷ items) rest placed there =
    ⊎_elim
    (λ inside. let same : k + 0 ≡ k = omega arith in
    each k placement (subst (λ n. placement_at models path n ≡ Some placement) same (rest.placements 0 placement refl)) placed inside)
    (λ later. by_items models below path instance each (suc k) items
    (record {
      lines = λ other among. rest.lines other (inr among);
      placements = λ j other is. let same : k + suc j ≡ suc k + j = omega arith in
          subst (λ n. placement_at models path n ≡ Some other) same (rest.placements (suc j) other is);
    }) placed later)
    (from_append placed (below (k ∷ path)) (lines_by below path (suc k) items) there)

by_levels : {Line : Type 0} (models : List (Model Line)) (levels : ℕ) (path : Path) → IsInstance models path → (placed : Placed Line)
    → Among placed (expand models levels path) → IsLineOf models placed
by_levels models zero path instance placed none = absurd none
by_levels models (suc levels) path instance placed there =
    by_items models (expand models levels) path instance
    (λ k placement is other inside. by_levels models levels (k ∷ path) (instance, (placement, is)) other inside)
    0 (items_at models path)
    (record { lines = λ line among. among; placements = λ j placement is. let same : 0 + j ≡ j = omega arith in subst (λ n. placement_at models path n ≡ Some placement) (sym same) is })
    placed there

pub line_of : {Line : Type 0} (models : List (Model Line)) (path : Path) (line : Line) → Among (path, line) (flat_lines models)
    → IsInstance models path × Among (Own line) (items_at models path)
unfolding IsLineOf flat_lines
line_of models path line there = by_levels models DEEPEST [] tt (path, line) there
