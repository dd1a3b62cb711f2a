-- The function and the relation of the first fault agree.
use Rattle.std.proofs.Common.{◌≡◌, ℕ, suc, ◌==◌, Bool, true, false, refl, arith, List, [], ◌∷◌, ◌++◌, slice_index_or, Option, None, Some, sym, ap, subst, ◌∙◌}
use Rattle.std.proofs.lemmas.List.Elements.{All-cons, All-nil}
use Rattle.std.specs.Prelude.{All, Contains, if◌then◌else◌}
use Rattle.psl_layer_theory.specs.FirstFlaw.{IsFirstFlaw, first_of, earlier, goes_before, cause_number}
use Rattle.psl_layer_theory.specs.declared.fault.Cause.{Cause}
use Rattle.psl_layer_theory.specs.declared.fault.Cause.TheVariants as causes
use Rattle.psl_layer_theory.specs.declared.fault.Flaw.{Flaw}
use Rattle.psl_layer_theory.proofs.Order.{lex-self, lex-along, lex-after, lex-neither}

pub not_before_self : (flaw : Flaw) → goes_before flaw flaw ≡ false
not_before_self flaw = lex-self flaw.place.line flaw.place.column (cause_number flaw.cause)

-- not going before leads on
pub not_before_along : (first second third : Flaw) → goes_before first second ≡ false → goes_before second third ≡ false → goes_before first third ≡ false
not_before_along first second third h k =
    lex-along first.place.line first.place.column (cause_number first.cause) second.place.line second.place.column (cause_number second.cause) third.place.line third.place.column (cause_number third.cause) h k

-- what goes before is not gone before
pub before_not_after : (first second : Flaw) → goes_before first second ≡ true → goes_before second first ≡ false
before_not_after first second h =
    lex-after first.place.line first.place.column (cause_number first.cause) second.place.line second.place.column (cause_number second.cause) h

-- a cause by its number
abbrev cause_of : ℕ → Cause
cause_of n =
    if n == 6 then causes.Kind
    else if n == 7 then causes.UnknownName
    else if n == 8 then causes.Ambiguous
    else if n == 9 then causes.DeclaredTwice
    else if n == 10 then causes.EmptyRange
    else causes.ConstantTooWide

cause_of-number : (cause : Cause) → cause_of (cause_number cause) ≡ cause
cause_of-number causes.Kind = refl
cause_of-number causes.UnknownName = refl
cause_of-number causes.Ambiguous = refl
cause_of-number causes.DeclaredTwice = refl
cause_of-number causes.EmptyRange = refl
cause_of-number causes.ConstantTooWide = refl

-- a fault by its line, its column and its cause
abbrev flaw_at : ℕ → ℕ → Cause → Flaw
flaw_at line column cause = record { place = record { line = line; column = column }; cause = cause }

-- two faults of which neither goes before the other are one
pub neither_before : (first second : Flaw) → goes_before first second ≡ false → goes_before second first ≡ false → first ≡ second
neither_before first second h k =
    let same = lex-neither first.place.line first.place.column (cause_number first.cause) second.place.line second.place.column (cause_number second.cause) h k in
    let causes_same : first.cause ≡ second.cause = sym (cause_of-number first.cause) ∙ ap cause_of same.2 ∙ cause_of-number second.cause in
    ap (λ (line : ℕ). flaw_at line first.place.column first.cause) same.0
    ∙ ap (λ (column : ℕ). flaw_at second.place.line column first.cause) same.1
    ∙ ap (λ (cause : Cause). flaw_at second.place.line second.place.column cause) causes_same

contains-front : (flaw : Flaw) (more : List Flaw) → Contains (flaw ∷ more) flaw
contains-front flaw more = (0, omega arith, refl)

contains-cons : (flaw first : Flaw) (more : List Flaw) → Contains more first → Contains (flaw ∷ more) first
contains-cons flaw first more (k, below, is) = (suc k, omega arith, is)

-- the first of a fault and the first of the others
chosen : (flaw first : Flaw) (more : List Flaw) → IsFirstFlaw more (Some first) → (b : Bool) → goes_before first flaw ≡ b → IsFirstFlaw (flaw ∷ more) (Some (if b then first else flaw))
chosen flaw first more (among, least) true e =
    (contains-cons flaw first more among, All-cons (λ other. goes_before other first ≡ false) flaw more (before_not_after first flaw e) least)
chosen flaw first more (among, least) false e = (
  contains-front flaw more,
  All-cons (λ other. goes_before other flaw ≡ false) flaw more (not_before_self flaw)
      (λ k d below. not_before_along (slice_index_or more k d) first flaw (least k d below) e),
)

with_first : (flaw : Flaw) (more : List Flaw) (first : Option Flaw) → IsFirstFlaw more first → IsFirstFlaw (flaw ∷ more) (earlier (Some flaw) first)
with_first flaw more None none =
    let P : List Flaw → Type 0 = λ others. All (λ other. goes_before other flaw ≡ false) others in (
      contains-front flaw more,
      All-cons (λ other. goes_before other flaw ≡ false) flaw more (not_before_self flaw) (subst P (sym none) (All-nil (λ other. goes_before other flaw ≡ false))),
    )
with_first flaw more (Some first) h = chosen flaw first more h (goes_before first flaw) refl

-- the function gives the first fault
pub first_of_is_first : (all : List Flaw) → IsFirstFlaw all (first_of all)
first_of_is_first [] = refl
first_of_is_first (flaw ∷ more) = with_first flaw more (first_of more) (first_of_is_first more)

-- faults that have a member are some
contains-none : (first : Flaw) (all : List Flaw) → Contains all first → all ≡ [] → ⊥
contains-none first [] (k, below, is) e = omega arith
contains-none first (flaw ∷ more) among e = cc

-- there is one first fault at most
pub one_first : (all : List Flaw) (first second : Option Flaw) → IsFirstFlaw all first → IsFirstFlaw all second → first ≡ second
one_first all None None h k = refl
one_first all None (Some second) h (among, least) = absurd (contains-none second all among h)
one_first all (Some first) None (among, least) k = absurd (contains-none first all among k)
one_first all (Some first) (Some second) ((i, i_below, i_is), first_least) ((j, j_below, j_is), second_least) =
    let P : Flaw → Type 0 = λ flaw. goes_before flaw first ≡ false in
    let Q : Flaw → Type 0 = λ flaw. goes_before flaw second ≡ false in
    let here : goes_before second first ≡ false = subst P j_is (first_least j second j_below) in
    let there : goes_before first second ≡ false = subst Q i_is (second_least i first i_below) in
    ap Some (neither_before first second there here)

-- the relation gives what the function gives
pub is_first-first_of : (all : List Flaw) (first : Option Flaw) → IsFirstFlaw all first → first ≡ first_of all
is_first-first_of all first h = one_first all first (first_of all) h (first_of_is_first all)

apart : {b : Bool} → b ≡ true → b ≡ false → ⊥
apart h k = cc

-- the earlier of three, whichever two are compared first
by_tests : (a b c : Flaw) (ba cb ca : Bool) → goes_before b a ≡ ba → goes_before c b ≡ cb → goes_before c a ≡ ca →
    earlier (Some (if ba then b else a)) (Some c) ≡ earlier (Some a) (Some (if cb then c else b))
by_tests a b c true true true e f g = ap (λ (t : Bool). Some (if t then c else b)) f ∙ sym (ap (λ (t : Bool). Some (if t then c else a)) g)
by_tests a b c true true false e f g =
    let clash : goes_before c b ≡ false = not_before_along c a b g (before_not_after b a e) in
    absurd (apart f clash)
by_tests a b c true false ca e f g = ap (λ (t : Bool). Some (if t then c else b)) f ∙ sym (ap (λ (t : Bool). Some (if t then b else a)) e)
by_tests a b c false true ca e f g = refl
by_tests a b c false false ca e f g =
    ap (λ (t : Bool). Some (if t then c else a)) (not_before_along c b a f e) ∙ sym (ap (λ (t : Bool). Some (if t then b else a)) e)

earlier-assoc_some : (a : Flaw) (b c : Option Flaw) → earlier (earlier (Some a) b) c ≡ earlier (Some a) (earlier b c)
earlier-assoc_some a None None = refl
earlier-assoc_some a None (Some c) = refl
earlier-assoc_some a (Some b) None = refl
earlier-assoc_some a (Some b) (Some c) = by_tests a b c (goes_before b a) (goes_before c b) (goes_before c a) refl refl refl

pub earlier-assoc : (a b c : Option Flaw) → earlier (earlier a b) c ≡ earlier a (earlier b c)
earlier-assoc None b c = refl
earlier-assoc (Some a) b c = earlier-assoc_some a b c

-- the earlier of first faults is the first of both lists
pub first_of-append : (xs ys : List Flaw) → first_of (xs ++ ys) ≡ earlier (first_of xs) (first_of ys)
first_of-append [] ys = refl
first_of-append (flaw ∷ more) ys =
    ap (earlier (Some flaw)) (first_of-append more ys) ∙ sym (earlier-assoc_some flaw (first_of more) (first_of ys))
