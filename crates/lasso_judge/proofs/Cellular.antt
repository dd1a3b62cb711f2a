-- Cells by their places and states, and lists of them.
use Rattle.std.proofs.Common.{◌≡◌, inl, inr, refl, sym, ap, subst, ℕ, zero, suc, ◌*◌, ◌/◌, ◌%◌, ◌<◌, Bool as Truth, false, List, [], ◌∷◌, length, replicate, get_or, arith}
use Rattle.std.specs.Prelude.{IsTrue, if◌then◌else◌}
use Rattle.std.proofs.lemmas.Bool.{cases_lt, both_ways}
use Rattle.std.proofs.lemmas.Nat.{mul-add-lt, div-add-mod'}
use Rattle.sere_nfa.specs.Marking.{is_marked}
use Rattle.sere_nfa.proofs.Reach.{Member, EachBelow}
use Rattle.lasso_judge.specs.Cells.{cell_of, numbers_below}
use Rattle.lasso_judge.proofs.Drawn.{member-there, member-left, member-right, one-there, one-back}

pub cell-below : (count width p q : ℕ) → p < count → q < width → cell_of width p q < count * width
cell-below count width p q l m = let b = mul-add-lt p width q count l m in grind (arith, b)

-- a cell is the one of its place and its state
pub cell-is : (width x : ℕ) → x ≡ cell_of width (x / width) (x % width)
cell-is width x = sym (div-add-mod' x width)

pub numbers-there : (test : ℕ → Truth) (n y : ℕ) → Member y (numbers_below test n) → (y < n) × IsTrue (test y)
numbers-there test zero y h = absurd h
numbers-there test (suc n) y h = elim (member-there y (numbers_below test n) (if test n then n ∷ [] else []) h) as (λ _. (y < suc n) × IsTrue (test y)) [
  | inl k ↦ (let r = numbers-there test n y k in (omega (arith, r.0), r.1))
  | inr k ↦ (let r = one-there (test n) y n k in (omega (arith, r.1), subst (λ j. IsTrue (test j)) (sym r.1) r.0))
]

pub numbers-back : (test : ℕ → Truth) (n y : ℕ) → y < n → IsTrue (test y) → Member y (numbers_below test n)
numbers-back test zero y l h = absurd (omega arith)
numbers-back test (suc n) y l h = elim (cases_lt y n) as (λ _. Member y (numbers_below test (suc n))) [
  | inl k ↦ member-left y (numbers_below test n) (if test n then n ∷ [] else []) (numbers-back test n y k h)
  | inr k ↦ (let e : y ≡ n = omega arith in
      member-right y (numbers_below test n) (if test n then n ∷ [] else []) (one-back (test n) y n (subst (λ j. IsTrue (test j)) e h) e))
]

pub each-member : (m : ℕ) (ns : List ℕ) → ((y : ℕ) → Member y ns → y < m) → EachBelow m ns
each-member m [] h = tt
each-member m (n ∷ ns) h = (h n (inl refl), each-member m ns (λ y s. h y (inr s)))

pub all-each : (m : ℕ) (ns : List ℕ) → EachBelow m ns → (k d : ℕ) → k < length ns → get_or ns k d < m
all-each m [] h k d l = absurd (omega arith)
all-each m (n ∷ ns) h zero d l = h.0
all-each m (n ∷ ns) h (suc k) d l = all-each m ns h.1 k d (omega arith)

pub marked-below : (marks : List Truth) (q : ℕ) → IsTrue (is_marked marks q) → q < length marks
marked-below [] q h = absurd (both_ways false refl h)
marked-below (m ∷ marks) zero h = omega arith
marked-below (m ∷ marks) (suc q) h = let below = marked-below marks q h in omega (arith, below)

pub length-replicate : (n : ℕ) → length (replicate n false) ≡ n
length-replicate zero = refl
length-replicate (suc n) = ap (λ k. suc k) (length-replicate n)
