-- Flat valuations and instance trees are the same things.
use Rattle.std.proofs.Common.{◌≡◌, ℕ, ◌<◌, inl, inr, List, [], ◌∷◌, length, get_or, Option, Some, None, refl, sym, ap, ◌∙◌, subst, ⊎_elim, arith}
use Rattle.std.proofs.lemmas.List.{get_or-map, length-map, ext_get_or}
use Rattle.std.proofs.lemmas.Option.{option_and_then_some}
use Rattle.blif_flattening.specs.declared.model.Placement.{Placement}
use Rattle.blif_flattening.specs.declared.model.Item.TheVariants.{Own}
use Rattle.blif_flattening.specs.declared.model.Model.{Model}
use Rattle.blif_flattening.specs.declared.model.Signal.{Signal}
use Rattle.blif_flattening.specs.Hierarchy.{Path, items_at, placement_at, IsInstance, actual_in, actual_of, owner_by, owner, flat_lines, mentioned_by, mentioned}
use Rattle.blif_flattening.specs.Numbers.{place_of, signals, number}
use Rattle.blif_flattening.specs.Members.{Among}
use Rattle.blif_flattening.specs.Trees.{Tree, IsName, IsWhole, IsOfMentions, IsTree, IsFlat, unfold_of, folded, Same}
use Rattle.blif_flattening.proofs.Members.{Among-map, from_map, Among-flat_map, from_flat_map, Among-at}
use Rattle.blif_flattening.proofs.Numbering.{onto-adds, onto-from, Apart-onto, place-within, get_or-place_of, place_of-get_or}
use Rattle.blif_flattening.proofs.Lines.{has_line, line_of}

module _ (Line : Type 0) (mentions : Line → List ℕ) (models : List (Model Line)) where
  -- what is connected, is by a placement
  pub placed_by : (path : Path) (k formal actual : ℕ) → actual_of models path k formal ≡ Some actual
      → (placement : Placement) × (placement_at models path k ≡ Some placement)
  placed_by path k formal actual is =
      option_and_then_some (λ placement. actual_in placement.connections formal) (placement_at models path k) actual is
      (λ placement there found. (placement, there))

  pub owner-some : (path : Path) (k formal actual : ℕ) → actual_of models path k formal ≡ Some actual
      → owner models (k ∷ path) formal ≡ owner models path actual
  owner-some path k formal actual is = ap (owner_by (owner models path) (k ∷ path) formal) is

  pub owner-none : (path : Path) (k name : ℕ) → actual_of models path k name ≡ None
      → owner models (k ∷ path) name ≡ record { path = k ∷ path; name = name }
  owner-none path k name is = ap (owner_by (owner models path) (k ∷ path) name) is

  module _ (whole : IsWhole mentions models) where
    owner-mentioned : (path : Path) (line : Line) (name : ℕ) → IsInstance models path → Among (Own line) (items_at models path) → Among name (mentions line)
        → Among (owner models path name) (signals mentions models)
    owner-mentioned path line name instance there mention =
        let flat : Among (path, line) (flat_lines models) = has_line models path line instance (whole.shallow path instance) there in
        onto-adds [] (mentioned mentions models (flat_lines models)) (owner models path name)
        (Among-flat_map (mentioned_by mentions models) (path, line) (owner models path name) (flat_lines models) flat
        (Among-map (owner models path) name (mentions line) mention))

    pub owner-among : (path : Path) (name : ℕ) → IsInstance models path → IsName mentions models path name
        → Among (owner models path name) (signals mentions models)
    owner-among path name instance (inl mention) = owner-mentioned path mention.0 name instance mention.1 mention.2
    owner-among path name instance (inr connected) =
        let k = connected.0 in
        let formal = connected.1 in
        let below : IsInstance models (k ∷ path) = (instance, placed_by path k formal name connected.2) in
        let by = whole.formals path k formal name below connected.2 in
        subst (λ signal. Among signal (signals mentions models)) (owner-some path k formal name connected.2)
        (owner-mentioned (k ∷ path) by.0 formal below by.1 by.2)

  -- a signal is what a name of an instance mentions
  pub signal-named : (signal : Signal) → Among signal (signals mentions models)
      → (path : Path) × (name : ℕ) × IsInstance models path × IsName mentions models path name × (owner models path name ≡ signal)
  signal-named signal there =
      let found = ⊎_elim (λ none. absurd none) (λ some. some) (onto-from [] (mentioned mentions models (flat_lines models)) signal there) in
      let by = from_flat_map (mentioned_by mentions models) signal (flat_lines models) found in
      let line = line_of models by.0.0 by.0.1 by.1 in
      let name = from_map (owner models by.0.0) signal (mentions by.0.1) by.2 in
      (by.0.0, name.0, line.0, inl (by.0.1, line.1, name.1), name.2)

  module _ (V : Type 0) (Says : Line → (ℕ → V) → Type 0) (other : V) where
    -- in a tree a name has its signal's value
    value-by : (tree : Tree V) → IsTree models Says tree → (path : Path) (k name : ℕ) → IsInstance models (k ∷ path)
        → ((above : ℕ) → tree (owner models path above).path (owner models path above).name ≡ tree path above)
        → (actual : Option ℕ) → actual_of models path k name ≡ actual
        → tree (owner models (k ∷ path) name).path (owner models (k ∷ path) name).name ≡ tree (k ∷ path) name
    value-by tree is path k name instance above None none =
        ap (λ (signal : Signal). tree signal.path signal.name) (owner-none path k name none)
    value-by tree is path k name instance above (Some actual) some =
        ap (λ (signal : Signal). tree signal.path signal.name) (owner-some path k name actual some)
        ∙ above actual ∙ sym (is.connections path k name actual instance some)

    owner-value : (tree : Tree V) → IsTree models Says tree → (path : Path) → IsInstance models path → (name : ℕ)
        → tree (owner models path name).path (owner models path name).name ≡ tree path name
    owner-value tree is [] instance name = refl
    owner-value tree is (k ∷ path) instance name =
        value-by tree is path k name instance (λ above. owner-value tree is path instance.0 above) (actual_of models path k name) refl

    -- a flat valuation unfolds to a tree
    pub IsTree-unfold_of : IsWhole mentions models → (valuation : List V) → IsFlat mentions models Says other valuation
        → IsTree models Says (unfold_of mentions models other valuation)
    IsTree-unfold_of whole valuation flat = record {
      lines = λ path line instance there. flat.lines path line (has_line models path line instance (whole.shallow path instance) there);
      connections = λ path k formal actual instance is.
          ap (λ (signal : Signal). get_or valuation (number mentions models signal) other) (owner-some path k formal actual is);
    }

    -- and only such a one does
    pub IsFlat-from_tree : (valuation : List V) → length valuation ≡ length (signals mentions models)
        → IsTree models Says (unfold_of mentions models other valuation) → IsFlat mentions models Says other valuation
    IsFlat-from_tree valuation size tree = record {
      size = size;
      lines = λ path line there. let of = line_of models path line there in tree.lines path line of.0 of.1;
    }

    -- what is folded and unfolded again is the same
    folded-at : (tree : Tree V) (signal : Signal) → Among signal (signals mentions models)
        → get_or (folded mentions models tree) (number mentions models signal) other ≡ tree signal.path signal.name
    folded-at tree signal there =
        get_or-map (λ (s : Signal). tree s.path s.name) (signals mentions models) (number mentions models signal) signal other
        (place-within (signals mentions models) signal there)
        ∙ ap (λ (s : Signal). tree s.path s.name) (get_or-place_of (signals mentions models) signal signal there)

    pub Same-folded : IsWhole mentions models → (tree : Tree V) → IsTree models Says tree
        → Same mentions models (unfold_of mentions models other (folded mentions models tree)) tree
    Same-folded whole tree is path name instance named =
        folded-at tree (owner models path name) (owner-among whole path name instance named) ∙ owner-value tree is path instance name

    pub IsFlat-folded : IsWhole mentions models → IsOfMentions mentions Says → (tree : Tree V) → IsTree models Says tree
        → IsFlat mentions models Says other (folded mentions models tree)
    IsFlat-folded whole of_mentions tree is = record {
      size = length-map (signals mentions models) (λ (s : Signal). tree s.path s.name);
      lines = λ path line there.
          let of = line_of models path line there in
          of_mentions line (tree path) (unfold_of mentions models other (folded mentions models tree) path)
          (λ name mention. sym (Same-folded whole tree is path name of.0 (inl (line, of.1, mention))))
          (is.lines path line of.0 of.1);
    }

    -- two flat valuations that unfold to the same tree are one
    pub same_valuations : (one another : List V) → length one ≡ length (signals mentions models) → length another ≡ length (signals mentions models)
        → Same mentions models (unfold_of mentions models other one) (unfold_of mentions models other another) → one ≡ another
    same_valuations one another one_size another_size same =
        ext_get_or other one another (one_size ∙ sym another_size)
        (λ k lt.
        let all : List Signal = signals mentions models in
        let within : k < length all = omega (arith, one_size) in
        let none : Signal = record { path = []; name = 0 } in
        let signal : Signal = get_or all k none in
        let named = signal-named signal (Among-at all k none within) in
        let is : number mentions models (owner models named.0 named.1) ≡ k =
        ap (λ s. place_of all s) named.4 ∙ place_of-get_or all k none (Apart-onto [] (mentioned mentions models (flat_lines models)) tt) within in
        sym (ap (λ n. get_or one n other) is) ∙ same named.0 named.1 named.2 named.3 ∙ ap (λ n. get_or another n other) is)
