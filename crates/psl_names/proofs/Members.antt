-- Lists of names with the same members say the same.
use Rattle.std.proofs.Common.{◌≡◌, ℕ, Bool as Truth, true, false, cond, not, arith, refl, sym, ap, ◌∙◌, List, [], ◌∷◌}
use Rattle.std.proofs.lemmas.Bool.{true≢false, false≢true}
use Rattle.std.proofs.lemmas.Bool.Decides.{nat_tests}
use Rattle.std.specs.Cmp.{first_so, second_so}
use Rattle.std.specs.List.{list_all, list_any}
use Rattle.std.specs.Prelude.{filter, if◌then◌else◌, ◌&&◌, ◌||◌, ◌==◌}
use Rattle.psl_tree.specs.declared.name.Name.{Name}
use Rattle.psl_layer_theory.specs.declared.found.Found.TheVariants.{One, Several}
use Rattle.psl_layer_theory.specs.LookUp.{found_among, is_same_range}
use Rattle.psl_names.specs.Alike.{HaveSameMembers}

-- whether all pass, by whether any fails
all-any : (test : Name → Truth) (names : List Name) → list_all test names ≡ not (list_any (λ name. not (test name)) names)
all-any test [] = refl
all-any test (name ∷ more) = by_first (test name) (list_all test more) (list_any (λ name. not (test name)) more) (all-any test more)
  where
    by_first : (here all any : Truth) → all ≡ not any → (here && all) ≡ not (not here || any)
    by_first true all any rest = rest
    by_first false all any rest = refl

-- whether any of those that are kept passes
any-filter : (keeps test : Name → Truth) (names : List Name) → list_any test (filter keeps names) ≡ list_any (λ name. keeps name && test name) names
any-filter keeps test [] = refl
any-filter keeps test (name ∷ more) = by_first (keeps name) name (filter keeps more) (list_any (λ name. keeps name && test name) more) (any-filter keeps test more)
  where
    by_first : (here : Truth) (name : Name) (kept : List Name) (any : Truth) → list_any test kept ≡ any → list_any test (cond here (name ∷ kept) kept) ≡ ((here && test name) || any)
    by_first true name kept any rest = ap (λ (b : Truth). test name || b) rest
    by_first false name kept any rest = rest

-- a name is alike to itself
same-self : (name : Name) → is_same_range name name ≡ true
same-self name = grind (arith, nat_tests)

-- names that are alike have one signal and one range
record AreAlike (first second : Name) : Type 0 where
  signal : first.signal ≡ second.signal
  left : first.left ≡ second.left
  right : first.right ≡ second.right

alike-from : (first second : Name) → is_same_range first second ≡ true → AreAlike first second
alike-from first second same = record { signal = grind (arith, nat_tests); left = grind (arith, nat_tests); right = grind (arith, nat_tests) }

-- a name has a signal and a range
abbrev has_range : ℕ → ℕ → ℕ → Name → Truth
has_range signal left right name = (signal == name.signal) && (left == name.left) && (right == name.right)

-- names are alike to one name where they are to one that is alike to it
test-same : (x y : Name) (names : List Name) → AreAlike x y → list_all (is_same_range x) names ≡ list_all (is_same_range y) names
test-same x y names one =
    ap (λ (signal : ℕ). list_all (has_range signal x.left x.right) names) one.signal
    ∙ ap (λ (left : ℕ). list_all (has_range y.signal left x.right) names) one.left
    ∙ ap (λ (right : ℕ). list_all (has_range y.signal y.left right) names) one.right

-- lists that have the same members pass alike
all-same : (test : Name → Truth) (first second : List Name) → HaveSameMembers first second → list_all test first ≡ list_all test second
all-same test first second same = all-any test first ∙ ap not (same (λ name. not (test name))) ∙ sym (all-any test second)

-- what alike names say
one-same : (x y : Name) → AreAlike x y → One x.signal x.left x.right ≡ One y.signal y.left y.right
one-same x y one =
    ap (λ (signal : ℕ). One signal x.left x.right) one.signal
    ∙ ap (λ (left : ℕ). One y.signal left x.right) one.left
    ∙ ap (λ (right : ℕ). One y.signal y.left right) one.right

-- what two lists say, by whether all of each are alike to its first name
by_all : (first second : Truth) (x y : Name) → (first ≡ true → AreAlike x y × (second ≡ true)) → (second ≡ true → first ≡ true) →
    (if first then One x.signal x.left x.right else Several) ≡ (if second then One y.signal y.left y.right else Several)
by_all true second x y there back =
    let both = there refl in
    one-same x y both.0 ∙ sym (ap (λ (b : Truth). if b then One y.signal y.left y.right else Several) both.1)
by_all false true x y there back = absurd (false≢true (back refl))
by_all false false x y there back = refl

-- where all of one list are alike to its first name, so are those of the other, and the first names are alike
half : (x y : Name) (xs ys : List Name) → HaveSameMembers (x ∷ xs) (y ∷ ys) → list_all (is_same_range x) xs ≡ true → AreAlike x y × (list_all (is_same_range y) ys ≡ true)
half x y xs ys same all =
    let firsts : list_all (is_same_range x) (x ∷ xs) ≡ true = ap (λ (b : Truth). b && list_all (is_same_range x) xs) (same-self x) ∙ all in
    let others : list_all (is_same_range x) (y ∷ ys) ≡ true = sym (all-same (is_same_range x) (x ∷ xs) (y ∷ ys) same) ∙ firsts in
    let one : AreAlike x y = alike-from x y (first_so (is_same_range x y) (list_all (is_same_range x) ys) others) in
    (one, sym (test-same x y ys one) ∙ second_so (is_same_range x y) (list_all (is_same_range x) ys) others)

-- lists that have the same members say the same
found-same : (first second : List Name) → HaveSameMembers first second → found_among first ≡ found_among second
found-same [] [] same = refl
found-same [] (y ∷ ys) same = absurd (false≢true (same (λ _. true)))
found-same (x ∷ xs) [] same = absurd (true≢false (same (λ _. true)))
found-same (x ∷ xs) (y ∷ ys) same =
    by_all (list_all (is_same_range x) xs) (list_all (is_same_range y) ys) x y
    (half x y xs ys same)
    (λ (all : list_all (is_same_range y) ys ≡ true). (half y x ys xs (λ (test : Name → Truth). sym (same test)) all).1)

-- and so do those of them that pass a test
pub found-filter : (first second : List Name) (test : Name → Truth) → HaveSameMembers first second → found_among (filter test first) ≡ found_among (filter test second)
found-filter first second test same =
    found-same (filter test first) (filter test second)
    (λ (other : Name → Truth). any-filter test other first ∙ same (λ name. test name && other name) ∙ sym (any-filter test other second))
