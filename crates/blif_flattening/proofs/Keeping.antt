-- The laws of flattening, from what flat valuations and trees of any values are.
use Rattle.std.proofs.Common.{◌≡◌, ℕ, Bool, IsTrue, List, [], ◌∷◌, map, refl, subst, inl, inr}
use Rattle.blif_flattening.specs.declared.model.Model.{Model}
use Rattle.blif_flattening.specs.Unfolds.{Passes, UnfoldsToTrees, UnfoldsFlatOnly, UnfoldsToEach, UnfoldsFromOne}
use Rattle.blif_flattening.specs.Members.{Among}
use Rattle.blif_flattening.specs.Trees.{IsOfMentions}
use Rattle.blif_flattening.proofs.Unfolding.{IsTree-unfold_of, IsFlat-from_tree, IsFlat-folded, Same-folded, same_valuations}

-- names with equal values have equal lists of values
same_values : (names : List ℕ) (one other : ℕ → ℕ) → ((name : ℕ) → Among name names → one name ≡ other name) → map one names ≡ map other names
same_values [] one other same = refl
same_values (name ∷ names) one other same =
    let first : one name ≡ other name = same name (inl refl) in
    let rest : map one names ≡ map other names = same_values names one other (λ later among. same later (inr among)) in
    cc

module _ (Line : Type 0) (mentions : Line → List ℕ) (models : List (Model Line)) where
  passes_of_mentions : (test : Line → List ℕ → Bool) → IsOfMentions mentions (Passes mentions test)
  passes_of_mentions test line one other same holds = subst (λ values. IsTrue (test line values)) (same_values (mentions line) one other same) holds

  pub unfolds_to_trees : UnfoldsToTrees mentions models
  unfolds_to_trees whole test valuation flat = IsTree-unfold_of Line mentions models ℕ (Passes mentions test) 0 whole valuation flat

  pub unfolds_flat_only : UnfoldsFlatOnly mentions models
  unfolds_flat_only test valuation size tree = IsFlat-from_tree Line mentions models ℕ (Passes mentions test) 0 valuation size tree

  pub unfolds_to_each : UnfoldsToEach mentions models
  unfolds_to_each whole test tree is = (
    IsFlat-folded Line mentions models ℕ (Passes mentions test) 0 whole (passes_of_mentions test) tree is,
    Same-folded Line mentions models ℕ (Passes mentions test) 0 whole tree is,
  )

  pub unfolds_from_one : UnfoldsFromOne mentions models
  unfolds_from_one one other one_size other_size same =
      same_valuations Line mentions models ℕ (λ line value. Unit {0}) 0 one other one_size other_size same
