-- Names without the later ones of several that are equal: a test that some name passes says of them what it says of all.
use Rattle.std.proofs.Common.{◌≡◌, ℕ, ◌+◌, Bool, true, false, not, ◌||◌, cond, List, [], ◌∷◌, ◌++◌, Option, None, Some, is_none, refl, sym, ap, ◌∙◌, inl, inr}
use Rattle.std.proofs.lemmas.Bool.{cases_Bool}
use Rattle.std.proofs.lemmas.List.Folds.{list_any-append}
use Rattle.std.proofs.lemmas.Slice.Eq.{bytes_eq-Decides}
use Rattle.std.specs.List.{list_any, position_from}
use Rattle.std.specs.Option.{is_some}
use Rattle.std.specs.Str.{bytes_eq}
use Rattle.blif_model.specs.Models.{with_name}
use Rattle.blif_model.specs.Names.{place_of}
use Rattle.blif_linking.specs.Interfaces.{is_one_of}
use Rattle.blif_linking.specs.Sets.{gathered}

-- a name is one of some names where it has a place
pub any-position : (test : List ℕ → Bool) (i : ℕ) (names : List (List ℕ)) → list_any test names ≡ not (is_none (position_from test i names))
any-position test i [] = refl
any-position test i (name ∷ names) =
    elim (test name) as (λ b. (b || list_any test names) ≡ not (is_none (cond b (Some i) (position_from test (i + 1) names)))) [ true ↦ refl | false ↦ any-position test (i + 1) names ]

pub one-of-is : (names : List (List ℕ)) (name : List ℕ) → is_one_of names name ≡ not (is_none (place_of names name))
one-of-is names name = any-position (bytes_eq name) 0 names

pub placed-is-one : (names : List (List ℕ)) (name : List ℕ) (n : ℕ) → place_of names name ≡ Some n → is_one_of names name ≡ true
placed-is-one names name n found = one-of-is names name ∙ ap (λ (place : Option ℕ). not (is_none place)) found

pub unplaced-is-none : (names : List (List ℕ)) (name : List ℕ) → place_of names name ≡ None → is_one_of names name ≡ false
unplaced-is-none names name found = one-of-is names name ∙ ap (λ (place : Option ℕ). not (is_none place)) found

or-true : (b : Bool) → (b || true) ≡ true
or-true true = refl
or-true false = refl

pub or-false : (b : Bool) → (b || false) ≡ b
or-false true = refl
or-false false = refl

pub or-assoc : (a b c : Bool) → ((a || b) || c) ≡ (a || (b || c))
or-assoc true b c = refl
or-assoc false b c = refl

-- a name that is there passes no test that none there passes
passes : (test : List ℕ → Bool) (names : List (List ℕ)) (name : List ℕ) → list_any (bytes_eq name) names ≡ true → (list_any test names || test name) ≡ list_any test names
passes test [] name is = cc
passes test (other ∷ names) name is =
    elim (cases_Bool (bytes_eq name other)) [
      | inl same ↦
          let one : name ≡ other = (bytes_eq-Decides name other).0 same in
          rw one (by-one (test other) (list_any test names))
      | inr differ ↦
          let later : list_any (bytes_eq name) names ≡ true = sym (ap (λ b. b || list_any (bytes_eq name) names) differ) ∙ is in
          or-assoc (test other) (list_any test names) (test name) ∙ ap (λ b. test other || b) (passes test names name later)
    ]
  where
    by-one : (b c : Bool) → ((b || c) || b) ≡ (b || c)
    by-one true c = refl
    by-one false c = or-false c

name-more : (test : List ℕ → Bool) (there : Bool) (found : List (List ℕ)) (name : List ℕ) → list_any (bytes_eq name) found ≡ there
    → list_any test (cond there found (found ++ name ∷ [])) ≡ (list_any test found || test name)
name-more test true found name is = sym (passes test found name is)
name-more test false found name is = list_any-append test found (name ∷ []) ∙ ap (λ b. list_any test found || b) (or-false (test name))

pub any-name : (test : List ℕ → Bool) (found : List (List ℕ)) (name : List ℕ) → list_any test (with_name found name) ≡ (list_any test found || test name)
any-name test found name = name-more test (list_any (bytes_eq name) found) found name refl

pub any-gathered : (test : List ℕ → Bool) (found names : List (List ℕ)) → list_any test (gathered found names) ≡ (list_any test found || list_any test names)
any-gathered test found [] = sym (or-false (list_any test found))
any-gathered test found (name ∷ names) =
    any-gathered test (with_name found name) names
    ∙ ap (λ b. b || list_any test names) (any-name test found name)
    ∙ or-assoc (list_any test found) (test name) (list_any test names)

-- tests that are equal at each name
pub any-same : (one other : List ℕ → Bool) → ((name : List ℕ) → one name ≡ other name) → (names : List (List ℕ)) → list_any one names ≡ list_any other names
any-same one other same [] = refl
any-same one other same (name ∷ names) =
    ap (λ b. b || list_any one names) (same name) ∙ ap (λ b. other name || b) (any-same one other same names)

-- a name that is new comes last
pub by-new : (there : Bool) (found : List (List ℕ)) (name : List ℕ) → there ≡ false → cond there found (found ++ name ∷ []) ≡ found ++ name ∷ []
by-new true found name is = cc
by-new false found name is = refl

pub with-new : (found : List (List ℕ)) (name : List ℕ) → place_of found name ≡ None → with_name found name ≡ found ++ name ∷ []
with-new found name is = by-new (is_one_of found name) found name (unplaced-is-none found name is)

pub by-old : (there : Bool) (found : List (List ℕ)) (name : List ℕ) → there ≡ true → cond there found (found ++ name ∷ []) ≡ found
by-old true found name is = refl
by-old false found name is = cc

pub with-old : (found : List (List ℕ)) (name : List ℕ) (n : ℕ) → place_of found name ≡ Some n → with_name found name ≡ found
with-old found name n is = by-old (is_one_of found name) found name (placed-is-one found name n is)

-- a name that is looked up
pub one-of-some : (names : List (List ℕ)) (name : List ℕ) (found : Option ℕ) (some : Bool) → found ≡ place_of names name → some ≡ is_some found → some ≡ is_one_of names name
one-of-some names name found some at is = is ∙ by-some found ∙ ap (λ (place : Option ℕ). not (is_none place)) at ∙ sym (one-of-is names name)
  where
    by-some : (place : Option ℕ) → is_some place ≡ not (is_none place)
    by-some None = refl
    by-some (Some n) = refl
