-- What letters settle stays settled, whatever comes behind them.
use Rattle.std.proofs.Common.{◌≡◌, inl, inr, refl, sym, ap, subst, ◌∙◌, ℕ, zero, suc, ◌-◌, ◌≤◌, List, [], ◌∷◌, length, take, None, Some, arith}
use Rattle.std.proofs.lemmas.Bool.{cases_lt}
use Rattle.std.proofs.lemmas.List.{take_all}
use mathlib.Core.Path.{fun_ext}
use Rattle.clock_rewrite.proofs.Clockless.{plain_plain}
use Rattle.clock_rewrite.proofs.Gaps.{HasNoGaps}
use Rattle.clock_rewrite.proofs.Meaning.{plain-same}
use Rattle.alternating_theory.proofs.Raised.{LessLetter, below-letters, bottom-less, less-same, less-top, raised}
use Rattle.psl_tree.proofs.Traces.{below-zero, zero-below, suc-below, suc-minus, strong-followed, weak-followed}
use Rattle.psl_tree.specs.Followed.{Tops, Bottoms, followed}
use Rattle.psl_tree.specs.Plain.{plain}
use Rattle.psl_tree.specs.Satisfaction.{Sat}
use Rattle.psl_tree.specs.Trace.{Trace, trace_of}
use Rattle.psl_tree.specs.Views.{strong, weak}
use Rattle.psl_tree.specs.Trees.{Formula}
use Rattle.psl_tree.specs.declared.letter.Letter.{Letter}
use Rattle.psl_tree.specs.declared.letter.Letter.TheVariants.{Top, Bottom}
use Rattle.wave_judge.specs.Settled.{IsSettledAgainst, IsSettledFor, IsPoint, Stays, HasOnePoint, endless}

-- the letters of an endless word, place by place
abbrev letter_on : List Letter → (ℕ → Letter) → ℕ → Letter
letter_on [] rest k = rest k
letter_on (x ∷ xs) rest zero = x
letter_on (x ∷ xs) rest (suc k) = letter_on xs rest k

abbrev tops : ℕ → Letter
tops k = Top

abbrev bottoms : ℕ → Letter
bottoms k = Bottom

endless-on : (xs : List Letter) (rest : ℕ → Letter) (k : ℕ) → endless xs rest k ≡ Some (letter_on xs rest k)
endless-on [] rest k = rw (below-zero k) (ap (λ n. Some (rest n)) (none k))
  where
    none : (n : ℕ) → n - 0 ≡ n
    none n = omega arith
endless-on (x ∷ xs) rest zero = rw (zero-below (length xs)) refl
endless-on (x ∷ xs) rest (suc k) = rw (suc-below k (length xs), suc-minus k (length xs)) (endless-on xs rest k)

tops-on : (xs : List Letter) (k : ℕ) → followed xs Tops k ≡ Some (letter_on xs tops k)
tops-on [] k = refl
tops-on (x ∷ xs) zero = refl
tops-on (x ∷ xs) (suc k) = tops-on xs k

bottoms-on : (xs : List Letter) (k : ℕ) → followed xs Bottoms k ≡ Some (letter_on xs bottoms k)
bottoms-on [] k = refl
bottoms-on (x ∷ xs) zero = refl
bottoms-on (x ∷ xs) (suc k) = bottoms-on xs k

-- the trace of these letters
abbrev Reads : Trace → (ℕ → Letter) → Type 0
Reads v l = v ≡ (λ k. Some (l k))

weak-reads : (xs : List Letter) → Reads (trace_of (weak xs)) (letter_on xs tops)
weak-reads xs = weak-followed xs ∙ fun_ext (tops-on xs)

strong-reads : (xs : List Letter) → Reads (trace_of (strong xs)) (letter_on xs bottoms)
strong-reads xs = strong-followed xs ∙ fun_ext (bottoms-on xs)

endless-reads : (xs : List Letter) (rest : ℕ → Letter) → Reads (endless xs rest) (letter_on xs rest)
endless-reads xs rest = fun_ext (endless-on xs rest)

no-gaps : (l : ℕ → Letter) → HasNoGaps (λ k. Some (l k))
no-gaps l i j le place = refl

-- what an endless word satisfies, one on whose letters more holds satisfies, under clocks too
more-satisfied : (f : Formula) (l m : ℕ → Letter) → ((k : ℕ) → LessLetter (l k) (m k)) → Sat (λ k. Some (l k)) f None → Sat (λ k. Some (m k)) f None
more-satisfied f l m less sat =
    (plain-same f None (λ k. Some (m k)) (no-gaps m)).0
    (raised (plain f None) (plain_plain f None) (λ k. Some (l k)) (λ k. Some (m k)) (below-letters l m less)
    ((plain-same f None (λ k. Some (l k)) (no-gaps l)).1 sat))

more-read : (f : Formula) (l m : ℕ → Letter) (v w : Trace) → Reads v l → Reads w m → ((k : ℕ) → LessLetter (l k) (m k)) → Sat v f None → Sat w f None
more-read f l m v w first second less sat =
    subst (λ (t : Trace). Sat t f None) (sym second) (more-satisfied f l m less (subst (λ (t : Trace). Sat t f None) first sat))

-- with Top behind it, less holds on the longer word
less-tops : (xs : List Letter) (fewer count : ℕ) → fewer ≤ count → (k : ℕ) → LessLetter (letter_on (take count xs) tops k) (letter_on (take fewer xs) tops k)
less-tops xs zero count le k = less-top (letter_on (take count xs) tops k) Top refl
less-tops [] (suc fewer) count le k = less-top (letter_on (take count []) tops k) Top refl
less-tops (x ∷ xs) (suc fewer) zero le k = absurd (omega arith)
less-tops (x ∷ xs) (suc fewer) (suc count) le zero = less-same x x refl
less-tops (x ∷ xs) (suc fewer) (suc count) le (suc k) = less-tops xs fewer count (omega arith) k

-- with Bottom behind it, more
more-bottoms : (xs : List Letter) (fewer count : ℕ) → fewer ≤ count → (k : ℕ) → LessLetter (letter_on (take fewer xs) bottoms k) (letter_on (take count xs) bottoms k)
more-bottoms xs zero count le k = bottom-less Bottom (letter_on (take count xs) bottoms k) refl
more-bottoms [] (suc fewer) count le k = bottom-less Bottom (letter_on (take count []) bottoms k) refl
more-bottoms (x ∷ xs) (suc fewer) zero le k = absurd (omega arith)
more-bottoms (x ∷ xs) (suc fewer) (suc count) le zero = less-same x x refl
more-bottoms (x ∷ xs) (suc fewer) (suc count) le (suc k) = more-bottoms xs fewer count (omega arith) k

-- whatever comes behind letters lies between
below-tops : (xs : List Letter) (rest : ℕ → Letter) (k : ℕ) → LessLetter (letter_on xs rest k) (letter_on xs tops k)
below-tops [] rest k = less-top (rest k) Top refl
below-tops (x ∷ xs) rest zero = less-same x x refl
below-tops (x ∷ xs) rest (suc k) = below-tops xs rest k

above-bottoms : (xs : List Letter) (rest : ℕ → Letter) (k : ℕ) → LessLetter (letter_on xs bottoms k) (letter_on xs rest k)
above-bottoms [] rest k = bottom-less Bottom (rest k) refl
above-bottoms (x ∷ xs) rest zero = less-same x x refl
above-bottoms (x ∷ xs) rest (suc k) = above-bottoms xs rest k

pub stays-against : (f : Formula) → Stays (IsSettledAgainst f)
stays-against f xs fewer count le against sat =
    against
    (more-read f (letter_on (take count xs) tops) (letter_on (take fewer xs) tops) (trace_of (weak (take count xs))) (trace_of (weak (take fewer xs)))
    (weak-reads (take count xs)) (weak-reads (take fewer xs)) (less-tops xs fewer count le) sat)

pub stays-for : (f : Formula) → Stays (IsSettledFor f)
stays-for f xs fewer count le sat =
    more-read f (letter_on (take fewer xs) bottoms) (letter_on (take count xs) bottoms) (trace_of (strong (take fewer xs))) (trace_of (strong (take count xs)))
    (strong-reads (take fewer xs)) (strong-reads (take count xs)) (more-bottoms xs fewer count le) sat

pub never_satisfied : (f : Formula) (xs : List Letter) (rest : ℕ → Letter) → IsSettledAgainst f xs → Sat (endless xs rest) f None → ⊥
never_satisfied f xs rest against sat =
    against
    (more-read f (letter_on xs rest) (letter_on xs tops) (endless xs rest) (trace_of (weak xs)) (endless-reads xs rest) (weak-reads xs) (below-tops xs rest) sat)

pub always_satisfied : (f : Formula) (xs : List Letter) (rest : ℕ → Letter) → IsSettledFor f xs → Sat (endless xs rest) f None
always_satisfied f xs rest sat =
    more-read f (letter_on xs bottoms) (letter_on xs rest) (trace_of (strong xs)) (endless xs rest) (strong-reads xs) (endless-reads xs rest) (above-bottoms xs rest) sat

pub point-whole : (IsSettled : List Letter → Type 0) → Stays IsSettled → (xs : List Letter) (count : ℕ) → IsPoint IsSettled xs count → IsSettled xs
point-whole IsSettled stays xs count point =
    subst IsSettled (take_all (length xs) xs (omega arith)) (stays xs count (length xs) point.within point.settled)

pub one-point : (IsSettled : List Letter → Type 0) → HasOnePoint IsSettled
one-point IsSettled xs m n p q = elim (cases_lt m n) as (λ _. m ≡ n) [
  | inl lt ↦ absurd (q.least m lt p.settled)
  | inr ge ↦ elim (cases_lt n m) as (λ _. m ≡ n) [ inl lt ↦ absurd (p.least n lt q.settled) | inr le ↦ omega arith ]
]
