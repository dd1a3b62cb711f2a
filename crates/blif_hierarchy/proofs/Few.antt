-- A hierarchy has no more signals than are listed.
use Rattle.std.proofs.Common.{◌≡◌, ℕ, ◌<◌, ◌≤◌, inl, inr, List, [], ◌∷◌, ◌++◌, length, Option, Some, option_and_then, refl, sym, ap, subst, ⊎_elim, arith}
use Rattle.std.proofs.lemmas.List.{length-append}
use Rattle.blif_flattening.specs.declared.model.Placement.{Placement}
use Rattle.blif_flattening.specs.declared.model.Model.{Model}
use Rattle.blif_flattening.specs.declared.model.Signal.{Signal}
use Rattle.blif_flattening.specs.declared.model.Item.TheVariants.{Own}
use Rattle.blif_flattening.specs.Hierarchy.{Path, items_of, items_at, model_at, actual_in, actual_of, owner, IsInstance, flat_lines, mentioned_by, mentioned}
use Rattle.blif_flattening.specs.Instances.{names_of, IsNamed}
use Rattle.blif_flattening.specs.Members.{Among, Apart}
use Rattle.blif_flattening.specs.Numbers.{signals}
use Rattle.blif_flattening.specs.Trees.{IsWhole}
use Rattle.blif_flattening.proofs.Lines.{line_of}
use Rattle.blif_flattening.proofs.Members.{Among-left, Among-right, from_append, from_map, from_flat_map}
use Rattle.blif_flattening.proofs.Numbering.{onto-from, Apart-onto}
use Rattle.blif_flattening.proofs.Unfolding.{placed_by}
use Rattle.blif_flattening.proofs.Visiting.{Among-placement}
use Rattle.blif_hierarchy.specs.Laws.{HasFewSignals}
use Rattle.blif_hierarchy.proofs.Owning.{listed, listed-length, owner-listed}

-- a list without one of its members
record Parted {X : Type 0} (x : X) (ys : List X) : Type 0 where
  left : List X
  right : List X
  is : ys ≡ left ++ x ∷ right

part : {X : Type 0} (x : X) (ys : List X) → Among x ys → Parted x ys
part x [] none = absurd none
part x (y ∷ ys) (inl here) = record { left = []; right = ys; is = ap (λ z. z ∷ ys) here }
part x (y ∷ ys) (inr there) =
    let rest = part x ys there in
    record { left = y ∷ rest.left; right = rest.right; is = ap (λ zs. y ∷ zs) rest.is }

-- of members that are apart there are no more than a list has
pub no-more : {X : Type 0} (xs ys : List X) → Apart xs → ((x : X) → Among x xs → Among x ys) → length xs ≤ length ys
no-more [] ys apart all = omega arith
no-more (x ∷ xs) ys apart all =
    let at = part x ys (all x (inl refl)) in
    let sizes : length ys ≡ length (at.left ++ x ∷ at.right) = ap (λ zs. length zs) at.is in
    let rest = no-more xs (at.left ++ at.right) apart.1 (λ y there.
    ⊎_elim (λ first. Among-left y at.left at.right first)
    (λ second. ⊎_elim (λ same. absurd (apart.0 (subst (λ z. Among z xs) (sym same) there))) (λ later. Among-right y at.left at.right later) second)
    (from_append y at.left (x ∷ at.right) (subst (λ zs. Among y zs) at.is (all y (inr there))))) in
    omega (arith, rest, sizes, length-append at.left (x ∷ at.right), length-append at.left at.right)

module _ (Line : Type 0) (mentions : Line → List ℕ) (models : List (Model Line)) (named : IsNamed mentions models) where
  pub actual-below : (path : Path) (k formal actual : ℕ) → actual_of models path k formal ≡ Some actual → actual < names_of models (model_at models path)
  actual-below path k formal actual is =
      let by = placed_by Line mentions models path k formal actual is in
      let found : actual_in by.0.connections formal ≡ Some actual =
      subst (λ (p : Option Placement). option_and_then (λ (q : Placement). actual_in q.connections formal) p ≡ Some actual) by.1 is in
      named.actuals (model_at models path) by.0 (Among-placement (items_of models (model_at models path)) k by.0 by.1) formal actual found

  module _ (whole : IsWhole mentions models) where
    pub mentioned-listed : (path : Path) (line : Line) (name : ℕ) → IsInstance models path → Among (Own line) (items_at models path) → Among name (mentions line)
        → Among (owner models path name) (listed models)
    mentioned-listed path line name instance there mention =
        owner-listed Line models whole.shallow actual-below path name instance (named.lines (model_at models path) line there name mention)

    pub signal-listed : (signal : Signal) → Among signal (signals mentions models) → Among signal (listed models)
    signal-listed signal there =
        let found = ⊎_elim (λ none. absurd none) (λ some. some) (onto-from [] (mentioned mentions models (flat_lines models)) signal there) in
        let by = from_flat_map (mentioned_by mentions models) signal (flat_lines models) found in
        let line = line_of models by.0.0 by.0.1 by.1 in
        let name = from_map (owner models by.0.0) signal (mentions by.0.1) by.2 in
        subst (λ s. Among s (listed models)) name.2 (mentioned-listed by.0.0 by.0.1 name.0 line.0 line.1 name.1)

pub has_few_signals : (Line : Type 0) (mentions : Line → List ℕ) (models : List (Model Line)) → HasFewSignals mentions models
has_few_signals Line mentions models whole named =
    let few = no-more (signals mentions models) (listed models) (Apart-onto [] (mentioned mentions models (flat_lines models)) tt)
    (signal-listed Line mentions models named whole) in
    omega (arith, few, listed-length models)
