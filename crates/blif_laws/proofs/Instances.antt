-- All instances are listed, with all of their names.
use Rattle.std.proofs.Common.{◌≡◌, ℕ, zero, suc, ◌+◌, ◌<◌, inl, inr, true, cond, List, [], ◌∷◌, ◌++◌, length, slice_get, Some, refl, ap, ◌∙◌, subst, ⊎_elim, arith}
use Rattle.std.specs.List.{flat_map}
use Rattle.psl_tree.specs.declared.name.Name.{Name}
use Rattle.blif_flattening.specs.declared.model.Placement.{Placement}
use Rattle.blif_flattening.specs.declared.model.TheConstants.{DEEPEST}
use Rattle.blif_flattening.specs.Hierarchy.{Path, items_at, model_at, owner, placements_in, IsInstance}
use Rattle.blif_flattening.specs.Instances.{names_of}
use Rattle.blif_flattening.specs.Listing.{instances, instances_by, instances_from}
use Rattle.blif_flattening.specs.Members.{Among}
use Rattle.blif_flattening.specs.Numbers.{is_among, signals}
use Rattle.blif_flattening.specs.Trees.{IsWhole}
use Rattle.blif_flattening.proofs.Members.{from_append}
use Rattle.blif_flattening.proofs.Numbering.{Among-told}
use Rattle.blif_flattening.proofs.Unfolding.{owner-among}
use Rattle.blif_model.specs.declared.line.ModelLine.{ModelLine}
use Rattle.blif_flat.specs.Flat.{Models, full_text, names_from, signal_of, texts_at}
use Rattle.blif_flat.specs.Lines.{mentions_of}
use Rattle.blif_flat.proofs.Names.{instance-there}
use Rattle.blif_laws.specs.Named.{HasAllNames, ListsAllInstances, ListsAllNames, all_names_from}

module _ (models : Models) where
  -- what is listed below placements of an instance are instances
  by_placements : (below : Path → List Path) (path found : Path) (k : ℕ) (placements : List Placement)
      → ((j : ℕ) (placement : Placement) → slice_get placements j ≡ Some placement → IsInstance models ((k + j) ∷ path))
      → ((other : Path) → IsInstance models other → Among found (below other) → IsInstance models found)
      → Among found (instances_by below path k placements) → IsInstance models found
  by_placements below path found k [] each inner none = absurd none
  by_placements below path found k (placement ∷ placements) each inner there =
      let at : k + 0 ≡ k = omega arith in
      ⊎_elim
      (λ here. inner (k ∷ path) (subst (λ n. IsInstance models (n ∷ path)) at (each 0 placement refl)) here)
      (λ later. by_placements below path found (suc k) placements
      (λ j other is. (let next : k + suc j ≡ suc k + j = omega arith in subst (λ n. IsInstance models (n ∷ path)) next (each (suc j) other is))) inner later)
      (from_append found (below (k ∷ path)) (instances_by below path (suc k) placements) there)

  by_levels : (levels : ℕ) (path found : Path) → IsInstance models path → Among found (instances_from models levels path) → IsInstance models found
  by_levels zero path found instance none = absurd none
  by_levels (suc levels) path found instance there =
      ⊎_elim (λ here. subst (λ (p : Path). IsInstance models p) here instance)
      (λ below. by_placements (instances_from models levels) path found 0 (placements_in (items_at models path))
      (λ j placement is. (let at : j ≡ 0 + j = omega arith in subst (λ n. IsInstance models (n ∷ path)) at (instance, (placement, is))))
      (λ other inner. by_levels levels other found inner) below) there

  instance-listed : (path : Path) → Among path (instances models) → IsInstance models path
  unfolding instances
  instance-listed path there = by_levels DEEPEST [] path tt there

  module _ (whole : IsWhole mentions_of models) where
    pub all-instances : ListsAllInstances models
    all-instances path = (λ instance. instance-there models path instance (whole.shallow path instance), instance-listed path)

    module _ (named : HasAllNames models) where
      -- each name of an instance is a signal
      is-signal : (path : Path) (name : ℕ) → IsInstance models path → name < names_of models (model_at models path)
          → is_among (signals mentions_of models) (owner models path name) ≡ true
      is-signal path name instance lt =
          let there = owner-among ModelLine mentions_of models whole path name instance ((named path name instance).0 lt) in
          ⊎_elim (λ told. told.0) (λ none. absurd (none.1 there)) (Among-told (signals mentions_of models) (owner models path name))

      instance-names : (path : Path) (name : ℕ) (texts : List (List ℕ)) → IsInstance models path → name + length texts ≡ names_of models (model_at models path)
          → names_from models path name texts ≡ all_names_from models path name texts
      instance-names path name [] instance size = refl
      instance-names path name (text ∷ texts) instance size =
          let first : Name = record { text = full_text path text; signal = signal_of models path name; left = 0; right = 0 } in
          ap (λ b. cond b (first ∷ names_from models path (suc name) texts) (names_from models path (suc name) texts))
          (is-signal path name instance (omega (arith, size)))
          ∙ ap (λ (names : List Name). first ∷ names) (instance-names path (suc name) texts instance (omega (arith, size)))

      flat-same : (one other : Path → List Name) (paths : List Path) → ((path : Path) → Among path paths → one path ≡ other path) → flat_map one paths ≡ flat_map other paths
      flat-same one other [] same = refl
      flat-same one other (path ∷ paths) same =
          ap (λ (names : List Name). names ++ flat_map one paths) (same path (inl refl))
          ∙ ap (λ (names : List Name). other path ++ names) (flat-same one other paths (λ p there. same p (inr there)))

      pub all-names : (texts : List (List (List ℕ))) → ((model : ℕ) → length (texts_at texts model) ≡ names_of models model) → ListsAllNames models texts
      all-names texts titled =
          flat-same (λ path. names_from models path 0 (texts_at texts (model_at models path)))
          (λ path. all_names_from models path 0 (texts_at texts (model_at models path))) (instances models)
          (λ path there. instance-names path 0 (texts_at texts (model_at models path)) (instance-listed path there)
          (let size = titled (model_at models path) in omega (arith, size)))
