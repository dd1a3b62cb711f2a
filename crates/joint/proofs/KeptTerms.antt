-- Terms of what is kept, number by number.
use Rattle.std.proofs.Common.{◌≡◌, ℕ, zero, suc, ◌+◌, ◌-◌, ◌<◌, Bool as Truth, true, false, cond, List, [], ◌∷◌, ◌++◌, map, length, Option, Some, Ok, Err, refl, sym, ap, ◌∙◌, subst, arith, append_assoc}
use Rattle.std.specs.Prelude.{filter, flat_map, slice_get}
use Rattle.std.specs.List.{range_with_len}
use Rattle.std.proofs.lemmas.List.Concat.{flat_map-cons}
use Rattle.clauses.specs.declared.flat.CnfFault.{CnfFault}
use Rattle.gates_theory.specs.declared.circuit.Gate.{Gate}
use Rattle.gates_theory.specs.Terms.{Term}
use Rattle.run_gates.specs.Building.{BuildsAll, Holding}
use Rattle.run_gates.proofs.Terms.{all-first, all-then, held-end, held-init}
use Rattle.joint.specs.Kept.{kept_term, terms_of}

-- the numbers from one on in two parts
flat-split : (f : ℕ → List Term) (first a b : ℕ)
    → flat_map f (range_with_len first (a + b)) ≡ flat_map f (range_with_len first a) ++ flat_map f (range_with_len (first + a) b)
flat-split f first zero b =
    let e : zero + b ≡ b = omega arith in
    let s : first ≡ first + zero = omega arith in
    ap (λ (n : ℕ). flat_map f (range_with_len first n)) e ∙ ap (λ (n : ℕ). flat_map f (range_with_len n b)) s
flat-split f first (suc a) b =
    let e : suc a + b ≡ suc (a + b) = omega arith in
    let s : first + 1 + a ≡ first + suc a = omega arith in
    ap (λ (n : ℕ). flat_map f (range_with_len first n)) e
    ∙ flat_map-cons f first (range_with_len (first + 1) (a + b))
    ∙ ap (λ (l : List Term). f first ++ l) (flat-split f (first + 1) a b ∙ ap (λ (n : ℕ). flat_map f (range_with_len (first + 1) a) ++ flat_map f (range_with_len n b)) s)
    ∙ sym (append_assoc (f first) (flat_map f (range_with_len (first + 1) a)) (flat_map f (range_with_len (first + suc a) b)))
    ∙ ap (λ (l : List Term). l ++ flat_map f (range_with_len (first + suc a) b)) (sym (flat_map-cons f first (range_with_len (first + 1) a)))

flat-one : (f : ℕ → List Term) (number : ℕ) → flat_map f (range_with_len number 1) ≡ f number
flat-one f number = flat_map-cons f number [] ∙ none (f number)
  where
    none : (l : List Term) → l ++ [] ≡ l
    none [] = refl
    none (x ∷ l) = ap (λ (m : List Term). x ∷ m) (none l)

-- one number more, and all numbers with those that are left
numbers-more : (f : ℕ → List Term) (number : ℕ) → flat_map f (range_with_len 0 number) ++ f number ≡ flat_map f (range_with_len 0 (number + 1))
numbers-more f number =
    let from : number ≡ 0 + number = omega arith in
    ap (λ (l : List Term). flat_map f (range_with_len 0 number) ++ l) (sym (flat-one f number) ∙ ap (λ (n : ℕ). flat_map f (range_with_len n 1)) from)
    ∙ sym (flat-split f 0 number 1)

numbers-left : (f : ℕ → List Term) (number count : ℕ) → number < count
    → flat_map f (range_with_len 0 (number + 1)) ++ flat_map f (range_with_len (number + 1) (count - (number + 1))) ≡ flat_map f (range_with_len 0 count)
numbers-left f number count below =
    let from : number + 1 ≡ 0 + (number + 1) = omega arith in
    let e : number + 1 + (count - (number + 1)) ≡ count = omega arith in
    ap (λ (n : ℕ). flat_map f (range_with_len 0 (number + 1)) ++ flat_map f (range_with_len n (count - (number + 1)))) from
    ∙ sym (flat-split f 0 (number + 1) (count - (number + 1))) ∙ ap (λ (n : ℕ). flat_map f (range_with_len 0 n)) e

-- terms that are added number by number

pub kept-init : (f : ℕ → List Term) (old : List Gate) (held : Holding) → BuildsAll old old held held (flat_map f (range_with_len 0 0)) (Ok tt)
kept-init f old held = held-end old old held held [] (held-init old held [])

pub kept-more : (f : ℕ → List Term) (old mid new : List Gate) (old_held mid_held new_held : Holding) (number : ℕ)
    → BuildsAll old mid old_held mid_held (flat_map f (range_with_len 0 number)) (Ok tt) → BuildsAll mid new mid_held new_held (f number) (Ok tt)
    → BuildsAll old new old_held new_held (flat_map f (range_with_len 0 (number + 1))) (Ok tt)
kept-more f old mid new old_held mid_held new_held number first second =
    subst (λ (terms : List Term). BuildsAll old new old_held new_held terms (Ok tt)) (numbers-more f number)
    (all-then old mid new old_held mid_held new_held (flat_map f (range_with_len 0 number)) (f number) (Ok tt) first second)

pub kept-fails : (f : ℕ → List Term) (old mid new : List Gate) (old_held mid_held new_held : Holding) (number count : ℕ) (fault : CnfFault) → number < count
    → BuildsAll old mid old_held mid_held (flat_map f (range_with_len 0 number)) (Ok tt) → BuildsAll mid new mid_held new_held (f number) (Err fault)
    → BuildsAll old new old_held new_held (flat_map f (range_with_len 0 count)) (Err fault)
kept-fails f old mid new old_held mid_held new_held number count fault below first second =
    let rest = flat_map f (range_with_len (number + 1) (count - (number + 1))) in
    subst (λ (terms : List Term). BuildsAll old new old_held new_held terms (Err fault))
    (ap (λ (l : List Term). l ++ rest) (numbers-more f number) ∙ numbers-left f number count below)
    (all-first old new old_held new_held (flat_map f (range_with_len 0 number) ++ f number) rest fault
    (all-then old mid new old_held mid_held new_held (flat_map f (range_with_len 0 number)) (f number) (Err fault) first second))

-- what is kept of some elements

pub kept-filter : {A : Type 0} (keep : A → Truth) (term : A → Term) (xs : List A) → flat_map (kept_term keep term) xs ≡ map term (filter keep xs)
kept-filter keep term [] = refl
kept-filter keep term (x ∷ xs) =
    flat_map-cons (kept_term keep term) x xs ∙ ap (λ (l : List Term). kept_term keep term x ++ l) (kept-filter keep term xs) ∙ by (keep x)
  where
    by : (b : Truth) → cond b (term x ∷ []) [] ++ map term (filter keep xs) ≡ map term (cond b (x ∷ filter keep xs) (filter keep xs))
    by true = refl
    by false = refl

flat-shift : (f : ℕ → List Term) (a n : ℕ) → flat_map f (range_with_len (suc a) n) ≡ flat_map (λ k. f (suc k)) (range_with_len a n)
flat-shift f a zero = refl
flat-shift f a (suc n) =
    let e : suc a + 1 ≡ suc (a + 1) = omega arith in
    flat_map-cons f (suc a) (range_with_len (suc a + 1) n)
    ∙ ap (λ (k : ℕ). f (suc a) ++ flat_map f (range_with_len k n)) e
    ∙ ap (λ (l : List Term). f (suc a) ++ l) (flat-shift f (a + 1) n)
    ∙ sym (flat_map-cons (λ k. f (suc k)) a (range_with_len (a + 1) n))

by-number : {A : Type 0} (terms : A → List Term) (xs : List A) → flat_map (λ n. terms_of terms (slice_get xs n)) (range_with_len 0 (length xs)) ≡ flat_map terms xs
by-number terms [] = refl
by-number terms (x ∷ xs) =
    flat_map-cons (λ n. terms_of terms (slice_get (x ∷ xs) n)) 0 (range_with_len (0 + 1) (length xs))
    ∙ ap (λ (l : List Term). terms x ++ l) (flat-shift (λ n. terms_of terms (slice_get (x ∷ xs) n)) 0 (length xs) ∙ by-number terms xs)
    ∙ sym (flat_map-cons terms x xs)

pub kept-elements : {A : Type 0} (keep : A → Truth) (term : A → Term) (xs : List A)
    → flat_map (λ n. terms_of (kept_term keep term) (slice_get xs n)) (range_with_len 0 (length xs)) ≡ map term (filter keep xs)
kept-elements keep term xs = by-number (kept_term keep term) xs ∙ kept-filter keep term xs

-- an element that is kept, and one that is not
pub kept-one : {A : Type 0} (keep : A → Truth) (term : A → Term) (o : Option A) (x : A) → o ≡ Some x → keep x ≡ true → terms_of (kept_term keep term) o ≡ term x ∷ []
kept-one keep term o x is kept = ap (terms_of (kept_term keep term)) is ∙ ap (λ b. cond b (term x ∷ []) []) kept
