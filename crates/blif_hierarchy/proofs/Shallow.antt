-- Where no placement is too deep, no path is.
use Rattle.std.proofs.Common.{◌≡◌, ℕ, zero, suc, ◌+◌, ◌<◌, ◌≤◌, ◌⊎◌, inl, inr, List, [], ◌∷◌, length, map, max, slice_get, Some, refl, sym, ap, subst, ⊎_elim, arith}
use Rattle.std.proofs.lemmas.Bool.{cases_lt}
use Rattle.blif_flattening.specs.declared.model.Placement.{Placement}
use Rattle.blif_flattening.specs.declared.model.Model.{Model}
use Rattle.blif_flattening.specs.declared.model.TheConstants.{DEEPEST}
use Rattle.blif_flattening.specs.Hierarchy.{Path, model_at, placed_model, placement_at, IsInstance}
use Rattle.blif_hierarchy.specs.Depth.{largest, depth_of, IsTooDeep, IsShallow}
use Rattle.blif_hierarchy.specs.Sums.{placements_of}

-- a placement is no deeper than the deepest
deep-among : {Line : Type 0} (models : List (Model Line)) (most k : ℕ) (placement : Placement) (placements : List Placement) → slice_get placements k ≡ Some placement
    → depth_of models most placement.model ≤ largest (map (λ (p : Placement). depth_of models most p.model) placements)
deep-among models most k placement [] is = cc
deep-among models most zero placement (first ∷ placements) is =
    let same : first ≡ placement = cc in
    subst (λ (p : Placement). depth_of models most p.model ≤ max (depth_of models most first.model) (largest (map (λ (q : Placement). depth_of models most q.model) placements))) same
    (grind arith)
deep-among models most (suc k) placement (first ∷ placements) is =
    let rest = deep-among models most k placement placements is in grind (arith, rest)

-- what lies below a path adds to its length
path-deep : {Line : Type 0} (models : List (Model Line)) (path : Path) (most : ℕ) → IsInstance models path
    → depth_of models most (model_at models path) + length path ≤ depth_of models (most + length path) 0
path-deep models [] most instance = (let same : most + 0 ≡ most = omega arith in subst (λ n. depth_of models most 0 + 0 ≤ depth_of models n 0) (sym same) (omega arith))
path-deep models (k ∷ path) most instance =
    let placement : Placement = instance.1.0 in
    let model : placed_model (placement_at models path k) ≡ placement.model = ap placed_model instance.1.1 in
    let here = deep-among models most k placement (placements_of models (model_at models path)) instance.1.1 in
    let same : depth_of models most (model_at models (k ∷ path)) ≡ depth_of models most placement.model = ap (depth_of models most) model in
    let above = path-deep models path (suc most) instance.0 in
    let size : suc most + length path ≡ most + suc (length path) = omega arith in
    subst (λ n. depth_of models most (model_at models (k ∷ path)) + suc (length path) ≤ depth_of models n 0) size (omega (arith, here, same, above))

-- an instance that is too deep lies below one that is just so
cut : {Line : Type 0} (models : List (Model Line)) (path : Path) → IsInstance models path → DEEPEST ≤ length path
    → (shorter : Path) × IsInstance models shorter × (length shorter ≡ DEEPEST)
cut models [] instance deep = absurd (omega arith)
cut models (k ∷ path) instance deep =
    ⊎_elim (λ less. (k ∷ path, instance, let same : suc (length path) ≡ DEEPEST = omega arith in same)) (λ more. cut models path instance.0 more)
    (cases_lt (length path) DEEPEST)

small-all : {Line : Type 0} (models : List (Model Line)) (placements : List Placement)
    → ((k : ℕ) (placement : Placement) → slice_get placements k ≡ Some placement → depth_of models DEEPEST placement.model < DEEPEST)
    → largest (map (λ (p : Placement). depth_of models DEEPEST p.model) placements) < DEEPEST
small-all models [] all = omega arith
small-all models (first ∷ placements) all =
    let here = all 0 first refl in
    let rest = small-all models placements (λ k placement is. all (suc k) placement is) in
    grind (arith, here, rest)

small-placed : {Line : Type 0} (models : List (Model Line)) → ((model k : ℕ) → IsTooDeep models model k → ⊥) → (k : ℕ) (placement : Placement)
    → slice_get (placements_of models 0) k ≡ Some placement → depth_of models DEEPEST placement.model < DEEPEST
small-placed models none k placement is =
    ⊎_elim (λ less. less) (λ deep. absurd (none 0 k (record { placement = placement; there = is; deep = deep })))
    (cases_lt (depth_of models DEEPEST placement.model) DEEPEST)

pub shallow-all : {Line : Type 0} (models : List (Model Line)) → ((model k : ℕ) → IsTooDeep models model k → ⊥) → IsShallow models
shallow-all models none path instance = by_length (cases_lt (length path) DEEPEST)
  where
    by_length : (length path < DEEPEST) ⊎ (DEEPEST ≤ length path) → length path < DEEPEST
    by_length (inl less) = less
    by_length (inr deep) =
        let at = cut models path instance deep in
        let below = path-deep models at.0 1 at.1 in
        let top = small-all models (placements_of models 0) (small-placed models none) in
        let size : 1 + length at.0 ≡ suc DEEPEST = omega (arith, at.2) in
        let whole : depth_of models (1 + length at.0) 0 ≡ depth_of models (suc DEEPEST) 0 = ap (λ n. depth_of models n 0) size in
        let one : depth_of models (suc DEEPEST) 0 ≡ suc (largest (map (λ (p : Placement). depth_of models DEEPEST p.model) (placements_of models 0))) = refl in
        let least : 1 ≤ depth_of models 1 (model_at models at.0) = (let more : depth_of models 1 (model_at models at.0) ≡ suc (largest (map (λ (p : Placement). depth_of models 0 p.model) (placements_of models (model_at models at.0)))) = refl in omega (arith, more)) in
        absurd (omega (arith, below, top, whole, one, least, at.2))
