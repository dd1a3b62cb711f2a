-- One level of a walk.
use Rattle.std.proofs.Common.{◌≡◌, ◌≢◌, ℕ, zero, suc, ◌-◌, List, [], refl, sym, ap, ◌∙◌, subst, arith}
use Rattle.blif_flattening.specs.declared.model.Item.{Item}
use Rattle.blif_flattening.specs.declared.model.Model.{Model}
use Rattle.blif_flattening.specs.declared.walk.Progress.{Progress}
use Rattle.blif_flattening.specs.Hierarchy.{Path, items_of, model_at, items_at, lines_by, expand}
use Rattle.blif_flattening.specs.Walks.{Walks}
use Rattle.blif_flattening.proofs.Walking.{Walks-same}

-- what is so many levels deep, is the lines of the items, with what is one level less deep in the place of placements
pub expand-step : {Line : Type 0} (models : List (Model Line)) (levels : ℕ) (path : Path) (model : ℕ) (items : List (Item Line))
    → levels ≢ 0 → model ≡ model_at models path → items_of models model ≡ items
    → expand models levels path ≡ lines_by (expand models (levels - 1)) path 0 items
expand-step models zero path model items some is listed = absurd (some refl)
expand-step models (suc levels) path model items some is listed =
    let less : levels ≡ suc levels - 1 = omega arith in
    ap (λ n. lines_by (expand models n) path 0 (items_at models path)) less
    ∙ ap (lines_by (expand models (suc levels - 1)) path 0) (ap (items_of models) (sym is) ∙ listed)

pub Walks-nothing : (Line : Type 0) (mentions : Line → List ℕ) (models : List (Model Line)) (levels : ℕ) (path : Path) (model : ℕ) (old new : Progress)
    → new.table ≡ old.table → new.lines ≡ old.lines → levels ≢ 0 → model ≡ model_at models path → items_of models model ≡ [] → Walks mentions models (expand models levels path) old new
Walks-nothing Line mentions models levels path model old new table same some is none =
    subst (λ lines. Walks mentions models lines old new) (sym (expand-step models levels path model [] some is none))
    (Walks-same Line mentions models old new table same)
