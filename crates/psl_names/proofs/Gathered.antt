-- What is found by one name after another is what those say together that match.
use Rattle.std.proofs.Common.{◌≡◌, ◌∙◌, ap, sym, refl, Bool as Truth, true, false, ◌&&◌, cond, ℕ, ◌≤◌, List, [], ◌∷◌, drop, length, ⊎_elim}
use Rattle.std.proofs.lemmas.Bool.{cases_Bool}
use Rattle.std.proofs.lemmas.List.{drop_all}
use Rattle.std.specs.List.{list_all}
use Rattle.std.specs.Prelude.{filter, if◌then◌else◌}
use Rattle.psl_tree.specs.declared.name.Name.{Name}
use Rattle.psl_layer_theory.specs.declared.found.Found.{Found}
use Rattle.psl_layer_theory.specs.declared.found.Found.TheVariants.{Nothing, One, Several}
use Rattle.psl_layer_theory.specs.LookUp.{ends_named, found_among, is_named, is_same_range, look_up}
use Rattle.psl_names.specs.Alike.{chosen, with_name, with_names}
use Rattle.psl_names.proofs.Looking.{found-filled}

several-still : (matches : Truth) (name : Name) → with_name Several matches name ≡ Several
several-still true name = refl
several-still false name = refl

several-stay : (test : Name → Truth) (names : List Name) → with_names test Several names ≡ Several
several-stay test [] = refl
several-stay test (name ∷ more) = ap (λ (found : Found). with_names test found more) (several-still (test name) name) ∙ several-stay test more

-- one signal with one range, where all that match have it
abbrev one_if : Name → Truth → Found
one_if first all = if all then One first.signal first.left first.right else Several

module _ (test : Name → Truth) (first : Name) where
  one-more : (more : List Name) → with_names test (One first.signal first.left first.right) more ≡ one_if first (list_all (is_same_range first) (filter test more))
      → (same : Truth) → with_names test (if same then One first.signal first.left first.right else Several) more
      ≡ one_if first (same && list_all (is_same_range first) (filter test more))
  one-more more stays true = stays
  one-more more stays false = several-stay test more

  one-stays : (names : List Name) → with_names test (One first.signal first.left first.right) names ≡ one_if first (list_all (is_same_range first) (filter test names))
  one-stays [] = refl
  one-stays (name ∷ more) =
      let rest : List Name = filter test more in
      ⊎_elim
      (λ (here : test name ≡ true).
      ap (λ (b : Truth). with_names test (with_name (One first.signal first.left first.right) b name) more) here
      ∙ one-more more (one-stays more) (is_same_range first name)
      ∙ sym (ap (λ (b : Truth). one_if first (list_all (is_same_range first) (cond b (name ∷ rest) rest))) here))
      (λ (out : test name ≡ false).
      ap (λ (b : Truth). with_names test (with_name (One first.signal first.left first.right) b name) more) out
      ∙ one-stays more
      ∙ sym (ap (λ (b : Truth). one_if first (list_all (is_same_range first) (cond b (name ∷ rest) rest))) out))
      (cases_Bool (test name))

pub gathered : (test : Name → Truth) (names : List Name) → with_names test Nothing names ≡ found_among (filter test names)
gathered test [] = refl
gathered test (name ∷ more) =
    let rest : List Name = filter test more in
    ⊎_elim
    (λ (here : test name ≡ true).
    ap (λ (b : Truth). with_names test (with_name Nothing b name) more) here
    ∙ one-stays test name more
    ∙ sym (ap (λ (b : Truth). found_among (cond b (name ∷ rest) rest)) here))
    (λ (out : test name ≡ false).
    ap (λ (b : Truth). with_names test (with_name Nothing b name) more) out
    ∙ gathered test more
    ∙ sym (ap (λ (b : Truth). found_among (cond b (name ∷ rest) rest)) out))
    (cases_Bool (test name))

-- what is found by all names
ended : (test : Name → Truth) (found : Found) (names : List Name) (place : ℕ) → length names ≤ place → with_names test found (drop place names) ≡ with_names test Nothing names
    → found ≡ found_among (filter test names)
ended test found names place past kept =
    ap (λ (rest : List Name). with_names test found rest) (sym (drop_all place names past)) ∙ kept ∙ gathered test names

pub looked-through : (all names : List Name) (text : List ℕ) (named ending : Found) (place : ℕ) → all ≡ names → length all ≤ place
    → with_names (is_named text) named (drop place all) ≡ with_names (is_named text) Nothing all
    → with_names (ends_named text) ending (drop place all) ≡ with_names (ends_named text) Nothing all → chosen named ending ≡ look_up names text
looked-through all names text named ending place is past first second =
    ap (λ (found : Found). chosen found ending) (ended (is_named text) named all place past first)
    ∙ ap (chosen (found_among (filter (is_named text) all))) (ended (ends_named text) ending all place past second)
    ∙ sym (found-filled (filter (is_named text) all) (filter (ends_named text) all))
    ∙ ap (λ (names : List Name). look_up names text) is
