-- Names that pass a test and stand before those that do not.
use Rattle.std.proofs.Common.{◌≡◌, ℕ, suc, ◌<◌, Bool as Truth, true, false, cond, not, arith, refl, sym, ap, ◌∙◌, List, [], ◌∷◌, length, drop, get_or}
use Rattle.std.proofs.lemmas.Bool.{true≢false, false_from_ne_true}
use Rattle.std.proofs.lemmas.List.Folds.{list_any_none}
use Rattle.std.specs.List.{list_all, list_any}
use Rattle.std.specs.List.Sorted.{IsPartitionedBy}
use Rattle.std.specs.Prelude.{⊤, filter, if◌then◌else◌, ◌&&◌, ◌||◌}
use Rattle.psl_tree.specs.declared.name.Name.{Name}
use Rattle.psl_layer_theory.specs.declared.found.Found.TheVariants.{Nothing, One, Several}
use Rattle.psl_layer_theory.specs.LookUp.{found_among, is_same_range}
use Rattle.psl_names.specs.Alike.{alike, first_passes, said}

-- the names that pass a test stand before the others
abbrev pub StandFirst : (Name → Truth) → List Name → Type 0
StandFirst test [] = ⊤
StandFirst test (name ∷ more) = (test name ≡ false → list_any test more ≡ false) × StandFirst test more

-- they do where no name that passes comes after one that does not
pub stand-first : (test : Name → Truth) (names : List Name) → IsPartitionedBy test names → StandFirst test names
stand-first test [] parted = tt
stand-first test (name ∷ more) parted = (
  (λ (out : test name ≡ false). list_any_none test more (λ (k : ℕ) (d : Name) (within : k < length more).
      false_from_ne_true (test (get_or more k d)) (λ (passes : test (get_or more k d) ≡ true).
      true≢false (sym (parted 0 (suc k) d (omega arith) (omega arith) passes) ∙ out)))),
  stand-first test more (λ i j d before within. parted (suc i) (suc j) d (omega arith) (omega arith)),
)

-- what is kept where nothing passes, by the first name
by_none : (here : Truth) (name : Name) (kept : List Name) (any : Truth) → (here || any) ≡ false → (any ≡ false → kept ≡ []) → cond here (name ∷ kept) kept ≡ []
by_none true name kept any none rest = absurd (true≢false none)
by_none false name kept any none rest = rest none

-- nothing is kept where nothing passes
pub filter-none : (test : Name → Truth) (names : List Name) → list_any test names ≡ false → filter test names ≡ []
filter-none test [] none = refl
filter-none test (name ∷ more) none = by_none (test name) name (filter test more) (list_any test more) none (filter-none test more)

-- one name more, by whether it passes and whether it is alike
by_alike : (here same : Truth) (test : Name → Truth) (first name : Name) (kept more : List Name) (count : ℕ) → here ≡ test name → same ≡ is_same_range first name →
    (here ≡ false → kept ≡ []) → list_all (is_same_range first) kept ≡ not (first_passes test (drop count more)) →
    list_all (is_same_range first) (cond here (name ∷ kept) kept) ≡ not (first_passes test (drop (if same then suc count else 0) (name ∷ more)))
by_alike true true test first name kept more count passes like none rest = ap (λ (b : Truth). b && list_all (is_same_range first) kept) (sym like) ∙ rest
by_alike true false test first name kept more count passes like none rest = ap (λ (b : Truth). b && list_all (is_same_range first) kept) (sym like) ∙ ap not passes
by_alike false true test first name kept more count passes like none rest = rest
by_alike false false test first name kept more count passes like none rest = ap (list_all (is_same_range first)) (none refl) ∙ ap not passes

-- those that pass are alike to a name where the first that is not alike does not pass
all_alike : (test : Name → Truth) (first : Name) (more : List Name) → StandFirst test more →
    list_all (is_same_range first) (filter test more) ≡ not (first_passes test (drop (alike first more) more))
all_alike test first [] stand = refl
all_alike test first (name ∷ more) stand =
    by_alike (test name) (is_same_range first name) test first name (filter test more) more (alike first more) refl refl
    (λ (out : test name ≡ false). filter-none test more (stand.0 out)) (all_alike test first more stand.1)

-- one or several, by the first that is not alike
by_other : (other : Truth) (first : Name) → (if not other then One first.signal first.left first.right else Several) ≡ (if other then Several else One first.signal first.left first.right)
by_other true first = refl
by_other false first = refl

-- what the names that pass say together, where the first does
pub found-first : (test : Name → Truth) (first : Name) (more : List Name) → StandFirst test more → test first ≡ true →
    found_among (filter test (first ∷ more)) ≡ said first (first_passes test (drop (alike first more) more))
found-first test first more stand passes =
    ap (λ (b : Truth). found_among (cond b (first ∷ filter test more) (filter test more))) passes
    ∙ ap (λ (b : Truth). if b then One first.signal first.left first.right else Several) (all_alike test first more stand)
    ∙ by_other (first_passes test (drop (alike first more) more)) first

-- what they say where the first does not
pub found-none : (test : Name → Truth) (first : Name) (more : List Name) → StandFirst test (first ∷ more) → test first ≡ false →
    found_among (filter test (first ∷ more)) ≡ Nothing
found-none test first more stand out = ap found_among (filter-none test (first ∷ more) (ap (λ (b : Truth). b || list_any test more) out ∙ stand.0 out))
