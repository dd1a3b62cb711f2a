-- The names of a hierarchy: each signal has one.
use Rattle.std.proofs.Common.{◌≡◌, ℕ, zero, suc, ◌+◌, ◌-◌, ◌<◌, inl, inr, Bool, true, false, cond, List, [], ◌∷◌, length, get_or, slice_get, All, Any, Some, refl, sym, ap, ◌∙◌, subst, ⊎_elim, arith}
use Rattle.std.specs.List.{flat_map}
use Rattle.std.proofs.lemmas.List.Elements.{All-nil, All-cons, All-append}
use Rattle.psl_tree.specs.declared.name.Name.{Name}
use Rattle.netlist.specs.Sound.{NamesBit}
use Rattle.blif_flattening.specs.declared.model.Placement.{Placement}
use Rattle.blif_flattening.specs.declared.model.Signal.{Signal}
use Rattle.blif_flattening.specs.declared.model.TheConstants.{DEEPEST}
use Rattle.blif_flattening.specs.Cells.{no_signal}
use Rattle.blif_flattening.specs.Hierarchy.{Path, items_at, model_at, placements_in, owner, IsInstance, flat_lines, mentioned}
use Rattle.blif_flattening.specs.Instances.{names_of, IsNamed}
use Rattle.blif_flattening.specs.Members.{Among}
use Rattle.blif_flattening.specs.Numbers.{is_among, place_of, signals}
use Rattle.blif_flattening.specs.Trees.{IsName, IsWhole}
use Rattle.blif_flattening.proofs.Members.{Among-left, Among-right, Among-flat_map, Among-at, Among-place}
use Rattle.blif_flattening.proofs.Numbering.{Among-told, Apart-onto, place-within, place_of-get_or}
use Rattle.blif_flattening.proofs.Unfolding.{signal-named}
use Rattle.blif_model.specs.declared.line.ModelLine.{ModelLine}
use Rattle.blif_hierarchy.proofs.Few.{actual-below}
use Rattle.blif_flattening.specs.Listing.{instances, instances_by, instances_from}
use Rattle.blif_flat.specs.Flat.{Models, signal_of, full_text, names_from, texts_at, flat_names}
use Rattle.blif_flat.specs.Lines.{mentions_of}

module _ (models : Models) where
  abbrev size : ℕ
  size = length (signals mentions_of models)

  -- the names that are listed are those of signals
  bits-from : (path : Path) (name : ℕ) (texts : List (List ℕ)) → All (NamesBit size) (names_from models path name texts)
  bits-from path name [] = All-nil (NamesBit size)
  bits-from path name (text ∷ texts) =
      ⊎_elim
      (λ told. by_test (is_among (signals mentions_of models) (owner models path name)) (place-within (signals mentions_of models) (owner models path name) told.1)
      (bits-from path (suc name) texts))
      (λ told. subst (λ test. All (NamesBit size) (cond test (record { text = full_text path text; signal = signal_of models path name; left = 0; right = 0 }
      ∷ names_from models path (suc name) texts) (names_from models path (suc name) texts))) (sym told.0) (bits-from path (suc name) texts))
      (Among-told (signals mentions_of models) (owner models path name))
    where
      by_test : (test : Bool) → signal_of models path name < size → All (NamesBit size) (names_from models path (suc name) texts)
          → All (NamesBit size) (cond test (record { text = full_text path text; signal = signal_of models path name; left = 0; right = 0 }
          ∷ names_from models path (suc name) texts) (names_from models path (suc name) texts))
      by_test true below rest =
          All-cons (NamesBit size) (record { text = full_text path text; signal = signal_of models path name; left = 0; right = 0 })
          (names_from models path (suc name) texts) (record { signal = below; left = refl; right = refl }) rest
      by_test false below rest = rest

  bits-all : (texts : List (List (List ℕ))) (paths : List Path)
      → All (NamesBit size) (flat_map (λ path. names_from models path 0 (texts_at texts (model_at models path))) paths)
  bits-all texts [] = All-nil (NamesBit size)
  bits-all texts (path ∷ paths) =
      All-append (NamesBit size) (names_from models path 0 (texts_at texts (model_at models path))) _
      (bits-from path 0 (texts_at texts (model_at models path))) (bits-all texts paths)

  -- a name that is a signal is listed
  name-there : (path : Path) (start name : ℕ) (texts : List (List ℕ)) → name < length texts
      → is_among (signals mentions_of models) (owner models path (start + name)) ≡ true
      → (found : Name) × Among found (names_from models path start texts) × (found.signal ≡ signal_of models path (start + name))
  name-there path start name [] lt is = absurd (omega arith)
  name-there path start zero (text ∷ texts) lt is =
      let at : start + 0 ≡ start = omega arith in
      let first : Name = record { text = full_text path text; signal = signal_of models path start; left = 0; right = 0 } in
      let told : is_among (signals mentions_of models) (owner models path start) ≡ true =
      subst (λ n. is_among (signals mentions_of models) (owner models path n) ≡ true) at is in (
        first,
        subst (λ test. Among first (cond test (first ∷ names_from models path (suc start) texts) (names_from models path (suc start) texts))) (sym told) (inl refl),
        ap (signal_of models path) (sym at),
      )
  name-there path start (suc name) (text ∷ texts) lt is =
      let at : start + suc name ≡ suc start + name = omega arith in
      let rest = name-there path (suc start) name texts (omega arith)
      (subst (λ n. is_among (signals mentions_of models) (owner models path n) ≡ true) at is) in (
        rest.0,
        later (is_among (signals mentions_of models) (owner models path start)) rest.0 rest.1,
        rest.2 ∙ ap (signal_of models path) (sym at),
      )
    where
      later : (test : Bool) (found : Name) → Among found (names_from models path (suc start) texts)
          → Among found (cond test (record { text = full_text path text; signal = signal_of models path start; left = 0; right = 0 }
          ∷ names_from models path (suc start) texts) (names_from models path (suc start) texts))
      later true found there = inr there
      later false found there = there

  -- each instance is listed
  placed-there : (below : Path → List Path) (path : Path) (k j : ℕ) (placement : Placement) (found : Path) (placements : List Placement)
      → slice_get placements j ≡ Some placement → Among found (below ((k + j) ∷ path)) → Among found (instances_by below path k placements)
  placed-there below path k j placement found [] is there = cc
  placed-there below path k zero placement found (first ∷ placements) is there =
      let at : k + 0 ≡ k = omega arith in
      Among-left found (below (k ∷ path)) (instances_by below path (suc k) placements) (subst (λ n. Among found (below (n ∷ path))) at there)
  placed-there below path k (suc j) placement found (first ∷ placements) is there =
      let at : k + suc j ≡ suc k + j = omega arith in
      Among-right found (below (k ∷ path)) (instances_by below path (suc k) placements)
      (placed-there below path (suc k) j placement found placements is (subst (λ n. Among found (below (n ∷ path))) at there))

  rises : (path : Path) (levels : ℕ) → IsInstance models path → length path + levels ≡ DEEPEST → (found : Path) → Among found (instances_from models levels path)
      → Among found (instances_from models DEEPEST [])
  rises [] levels instance deep found there = let all : levels ≡ DEEPEST = omega arith in subst (λ n. Among found (instances_from models n [])) all there
  rises (k ∷ path) levels instance deep found there =
      let at : 0 + k ≡ k = omega arith in
      rises path (suc levels) instance.0 (omega arith) found
      (inr (placed-there (instances_from models levels) path 0 k instance.1.0 found (placements_in (items_at models path)) instance.1.1
      (subst (λ n. Among found (instances_from models levels (n ∷ path))) (sym at) there)))

  pub instance-there : (path : Path) → IsInstance models path → length path < DEEPEST → Among path (instances models)
  unfolding instances
  instance-there path instance shallow =
      let levels : ℕ = DEEPEST - suc (length path) in
      rises path (suc levels) instance (omega arith) path (inl refl)

pub names-bit : (models : Models) (texts : List (List (List ℕ))) → All (NamesBit (length (signals mentions_of models))) (flat_names models texts)
names-bit models texts = bits-all models texts (instances models)

name-below : (models : Models) → IsNamed mentions_of models → (path : Path) (name : ℕ) → IsName mentions_of models path name → name < names_of models (model_at models path)
name-below models named path name (inl mention) = named.lines (model_at models path) mention.0 mention.1 name mention.2
name-below models named path name (inr connected) = actual-below ModelLine mentions_of models named path connected.0 connected.1 name connected.2

any-among : (names : List Name) (found : Name) (k : ℕ) → Among found names → found.signal ≡ k → Any (λ name. name.signal ≡ k) names
any-among names found k there is = let at = Among-place found found names there in (at.0, found, at.1, at.2, is)

pub names-all : (models : Models) (texts : List (List (List ℕ))) → IsWhole mentions_of models → IsNamed mentions_of models
    → ((model : ℕ) → length (texts_at texts model) ≡ names_of models model)
    → (signal : ℕ) → signal < length (signals mentions_of models) → Any (λ name. name.signal ≡ signal) (flat_names models texts)
names-all models texts whole named titled k lt =
    let all : List Signal = signals mentions_of models in
    let there = Among-at all k no_signal lt in
    let by = signal-named ModelLine mentions_of models (get_or all k no_signal) there in
    let below = name-below models named by.0 by.1 by.3 in
    let told : is_among all (owner models by.0 by.1) ≡ true =
    ⊎_elim (λ yes. yes.0) (λ no_. absurd (no_.1 (subst (λ s. Among s all) (sym by.4) there))) (Among-told all (owner models by.0 by.1)) in
    let at : 0 + by.1 ≡ by.1 = omega arith in
    let found = name-there models by.0 0 by.1 (texts_at texts (model_at models by.0)) (omega (arith, below, titled (model_at models by.0)))
    (subst (λ n. is_among all (owner models by.0 n) ≡ true) (sym at) told) in
    let is : found.0.signal ≡ k =
    found.2 ∙ ap (signal_of models by.0) at ∙ ap (place_of all) by.4
    ∙ place_of-get_or all k no_signal (Apart-onto [] (mentioned mentions_of models (flat_lines models)) tt) lt in
    any-among (flat_names models texts) found.0 k
    (Among-flat_map (λ path. names_from models path 0 (texts_at texts (model_at models path))) by.0 found.0 (instances models)
    (instance-there models by.0 by.2 (whole.shallow by.0 by.2)) found.1) is
