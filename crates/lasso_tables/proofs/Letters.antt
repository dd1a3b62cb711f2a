-- The letter at a place of a word: one of its stem, one of its loop, or one behind it.
use Rattle.std.proofs.Common.{◌≡◌, inl, inr, refl, sym, ap, ◌∙◌, subst, ℕ, zero, suc, ◌-◌, ◌≤◌, ◌<◌, Bool as Truth, true, false, nat_eq, List, [], ◌∷◌, ◌++◌, length, get_or, arith}
use Rattle.std.proofs.lemmas.Bool.{eq-eqb, cases_eq}
use Rattle.std.proofs.lemmas.Bool.Decides.{nat_tests}
use mathlib.Core.Bool as bools
use Rattle.psl_tree.specs.Holds.{holds}
use Rattle.psl_tree.specs.Trees.{Boolean}
use Rattle.psl_tree.specs.declared.letter.Letter.{Letter}
use Rattle.psl_tree.specs.declared.letter.Letter.TheVariants.{Top, Bottom}
use Rattle.alternating_theory.specs.Courses.{letter_in}
use Rattle.lasso_tables.specs.Seen.{seen}

front : (xs ys : List Letter) (k : ℕ) (x : Letter) → k < length xs → x ≡ get_or xs k x → x ≡ letter_in (xs ++ ys) k
front [] ys k x h e = absurd (omega arith)
front (y ∷ xs) ys zero x h e = e
front (y ∷ xs) ys (suc k) x h e = front xs ys k x (omega arith) e

back : (xs ys : List Letter) (k : ℕ) → length xs ≤ k → letter_in ys (k - length xs) ≡ letter_in (xs ++ ys) k
back [] ys k h = let e : k - 0 ≡ k = omega arith in ap (λ n. letter_in ys n) e
back (x ∷ xs) ys zero h = absurd (omega arith)
back (x ∷ xs) ys (suc k) h = let e : suc k - suc (length xs) ≡ k - length xs = omega arith in ap (λ n. letter_in ys n) e ∙ back xs ys k (omega arith)

own : (ys : List Letter) (j : ℕ) (x : Letter) → j < length ys → x ≡ get_or ys j x → x ≡ letter_in ys j
own [] j x h e = absurd (omega arith)
own (y ∷ ys) zero x h e = e
own (y ∷ ys) (suc j) x h e = own ys j x (omega arith) e

pub past : (ys : List Letter) (j : ℕ) → length ys ≤ j → letter_in ys j ≡ letter_in [] (j - length ys)
past [] j h = let e : j - 0 ≡ j = omega arith in ap (λ n. letter_in [] n) (sym e)
past (y ∷ ys) zero h = absurd (omega arith)
past (y ∷ ys) (suc j) h = past ys j (omega arith) ∙ (let e : suc j - suc (length ys) ≡ j - length ys = omega arith in ap (λ n. letter_in [] n) (sym e))

pub stem-letter : (xs ys stem : List Letter) (k : ℕ) (x : Letter) (flipped : Truth) (b : Boolean) → stem ≡ xs → k < length stem → x ≡ get_or stem k x
    → holds (seen flipped x) b ≡ holds (seen flipped (letter_in (xs ++ ys) k)) b
stem-letter xs ys stem k x flipped b e h is = ap (λ (y : Letter). holds (seen flipped y) b)
    (subst (λ (zs : List Letter). x ≡ letter_in (zs ++ ys) k) e (front stem ys k x h is))

pub loop-letter : (xs ys stem looped : List Letter) (k : ℕ) (x : Letter) (flipped : Truth) (b : Boolean) → stem ≡ xs → looped ≡ ys → length stem ≤ k
    → k - length stem < length looped → x ≡ get_or looped (k - length stem) x
    → holds (seen flipped x) b ≡ holds (seen flipped (letter_in (xs ++ ys) k)) b
loop-letter xs ys stem looped k x flipped b e f l h is = ap (λ (y : Letter). holds (seen flipped y) b)
    (subst (λ (zs : List Letter). x ≡ letter_in (zs ++ ys) k) e
    (subst (λ (zs : List Letter). x ≡ letter_in (stem ++ zs) k) f
    (own looped (k - length stem) x h is ∙ back stem looped k l)))

first_behind : (flipped : Truth) (b : Boolean) → bools.not (bools.beq true flipped) ≡ holds (seen flipped Top) b
first_behind true b = refl
first_behind false b = refl

later_behind : (flipped : Truth) (b : Boolean) → bools.not (bools.beq false flipped) ≡ holds (seen flipped Bottom) b
later_behind true b = refl
later_behind false b = refl

ends : (n : ℕ) (flipped : Truth) (b : Boolean) → bools.not (bools.beq (nat_eq n 0) flipped) ≡ holds (seen flipped (letter_in [] n)) b
ends zero flipped b = first_behind flipped b
ends (suc n) flipped b =
    let e : nat_eq (suc n) 0 ≡ false = grind (arith, nat_tests) in
    ap (λ (t : Truth). bools.not (bools.beq t flipped)) e ∙ later_behind flipped b

same-test : (j n : ℕ) → n ≤ j → nat_eq j n ≡ nat_eq (j - n) 0
same-test j n h = elim (cases_eq j n) as (λ _. nat_eq j n ≡ nat_eq (j - n) 0) [
  | inl e ↦ eq-eqb j n e ∙ sym (eq-eqb (j - n) 0 (omega arith))
  | inr d ↦ grind (arith, nat_tests)
]

pub behind-letter : (xs ys stem looped : List Letter) (k : ℕ) (flipped : Truth) (b : Boolean) → stem ≡ xs → looped ≡ ys → length stem ≤ k
    → length looped ≤ k - length stem
    → bools.not (bools.beq (nat_eq (k - length stem) (length looped)) flipped) ≡ holds (seen flipped (letter_in (xs ++ ys) k)) b
behind-letter xs ys stem looped k flipped b e f l h =
    ap (λ (t : Truth). bools.not (bools.beq t flipped)) (same-test (k - length stem) (length looped) h)
    ∙ ends (k - length stem - length looped) flipped b
    ∙ ap (λ (y : Letter). holds (seen flipped y) b)
    (subst (λ (zs : List Letter). letter_in [] (k - length stem - length looped) ≡ letter_in (zs ++ ys) k) e
    (subst (λ (zs : List Letter). letter_in [] (k - length stem - length looped) ≡ letter_in (stem ++ zs) k) f
    (sym (past looped (k - length stem) h) ∙ back stem looped k l)))
