-- The atoms that a formula tests, each once.
use Rattle.std.proofs.Common.{◌≡◌, inl, inr, refl, sym, ap, ◌∙◌, subst, ℕ, zero, suc, ◌+◌, ◌<◌, ◌≤◌, Bool as Truth, true, false, if◌then◌else◌, List, [], ◌∷◌, ◌++◌, length, take, get_or, arith, eq-eqb, length-append}
use Rattle.std.specs.Prelude.{IsTrue, ◌||◌, All, Contains}
use Rattle.std.specs.List.{AllByRecursion}
use Rattle.std.proofs.lemmas.Bool.{or_left, or_right, cases_lt}
use Rattle.std.proofs.lemmas.List.{take-append-le, take_at, get_or_push, length_push}
use Rattle.std.proofs.lemmas.List.Elements.{All-from_recursion, recursion_from_All, All-contains_itself, All-contains, All-weaker}
use Rattle.std.proofs.lemmas.List.Folds.{list_any-append}
use Rattle.alternating_theory.specs.Atoms.{is_among}
use Rattle.psl_tree.specs.Atoms.{AtomsOfBoolean, AtomsOfSequence, AtomsOfFormula}
use Rattle.psl_tree.specs.Counts.{boolean_size, sequence_size, formula_size}
use Rattle.psl_tree.specs.Holds.{is_same_atom, edge_number}
use Rattle.psl_tree.specs.Trees.{Boolean, Sequence, Formula}
use Rattle.psl_tree.specs.Trees.{Const, Test, Not, And, Or, Empty, One, Concat, Fuse, Either, Both, Star, Clocked, Now, NowStrong, Weak, Strong, Next, Until, Suffix, Abort, SyncAbort}
use Rattle.psl_tree.specs.declared.atom.Atom.{Atom}
use Rattle.wave_judge.specs.Atoms.{atoms_in_boolean, atoms_in_sequence, atoms_in, with_one, with_new, AreTested}

pub with_new_append : (atoms xs ys : List Atom) → with_new (with_new atoms xs) ys ≡ with_new atoms (xs ++ ys)
with_new_append atoms [] ys = refl
with_new_append atoms (x ∷ xs) ys = with_new_append (with_one atoms x) xs ys

-- what both parts of a list pass, and the whole
each-both : (P : Atom → Type 0) (xs ys : List Atom) → AllByRecursion P xs → AllByRecursion P ys → AllByRecursion P (xs ++ ys)
each-both P [] ys h k = k
each-both P (x ∷ xs) ys h k = (h.0, each-both P xs ys h.1 k)

each-left : (P : Atom → Type 0) (xs ys : List Atom) → AllByRecursion P (xs ++ ys) → AllByRecursion P xs
each-left P [] ys h = tt
each-left P (x ∷ xs) ys h = (h.0, each-left P xs ys h.1)

each-right : (P : Atom → Type 0) (xs ys : List Atom) → AllByRecursion P (xs ++ ys) → AllByRecursion P ys
each-right P [] ys h = h
each-right P (x ∷ xs) ys h = each-right P xs ys h.1

module _ (P : Atom → Type 0) where
  -- each atom of a tree has P where each of its list has it
  boolean-each : (b : Boolean) → AllByRecursion P (atoms_in_boolean b) → AtomsOfBoolean P b
  boolean-each (Const _) h = tt
  boolean-each (Test a) h = h.0
  boolean-each (Not b) h = boolean-each b h
  boolean-each (And b c) h = (boolean-each b (each-left P (atoms_in_boolean b) (atoms_in_boolean c) h), boolean-each c (each-right P (atoms_in_boolean b) (atoms_in_boolean c) h))
  boolean-each (Or b c) h = (boolean-each b (each-left P (atoms_in_boolean b) (atoms_in_boolean c) h), boolean-each c (each-right P (atoms_in_boolean b) (atoms_in_boolean c) h))

  sequence-each : (r : Sequence) → AllByRecursion P (atoms_in_sequence r) → AtomsOfSequence P r
  sequence-each Empty h = tt
  sequence-each (One b) h = boolean-each b h
  sequence-each (Concat r s) h = (sequence-each r (each-left P (atoms_in_sequence r) (atoms_in_sequence s) h), sequence-each s (each-right P (atoms_in_sequence r) (atoms_in_sequence s) h))
  sequence-each (Fuse r s) h = (sequence-each r (each-left P (atoms_in_sequence r) (atoms_in_sequence s) h), sequence-each s (each-right P (atoms_in_sequence r) (atoms_in_sequence s) h))
  sequence-each (Either r s) h = (sequence-each r (each-left P (atoms_in_sequence r) (atoms_in_sequence s) h), sequence-each s (each-right P (atoms_in_sequence r) (atoms_in_sequence s) h))
  sequence-each (Both r s) h = (sequence-each r (each-left P (atoms_in_sequence r) (atoms_in_sequence s) h), sequence-each s (each-right P (atoms_in_sequence r) (atoms_in_sequence s) h))
  sequence-each (Star r) h = sequence-each r h
  sequence-each (Clocked r b) h = (sequence-each r (each-left P (atoms_in_sequence r) (atoms_in_boolean b) h), boolean-each b (each-right P (atoms_in_sequence r) (atoms_in_boolean b) h))

  formula-each : (f : Formula) → AllByRecursion P (atoms_in f) → AtomsOfFormula P f
  formula-each (Now b) h = boolean-each b h
  formula-each (NowStrong b) h = boolean-each b h
  formula-each (Weak r) h = sequence-each r h
  formula-each (Strong r) h = sequence-each r h
  formula-each (Not f) h = formula-each f h
  formula-each (And f g) h = (formula-each f (each-left P (atoms_in f) (atoms_in g) h), formula-each g (each-right P (atoms_in f) (atoms_in g) h))
  formula-each (Next f) h = formula-each f h
  formula-each (Until f g) h = (formula-each f (each-left P (atoms_in f) (atoms_in g) h), formula-each g (each-right P (atoms_in f) (atoms_in g) h))
  formula-each (Suffix r f) h = (sequence-each r (each-left P (atoms_in_sequence r) (atoms_in f) h), formula-each f (each-right P (atoms_in_sequence r) (atoms_in f) h))
  formula-each (Abort f b) h = (formula-each f (each-left P (atoms_in f) (atoms_in_boolean b) h), boolean-each b (each-right P (atoms_in f) (atoms_in_boolean b) h))
  formula-each (SyncAbort f b) h = (formula-each f (each-left P (atoms_in f) (atoms_in_boolean b) h), boolean-each b (each-right P (atoms_in f) (atoms_in_boolean b) h))
  formula-each (Clocked f b) h = (formula-each f (each-left P (atoms_in f) (atoms_in_boolean b) h), boolean-each b (each-right P (atoms_in f) (atoms_in_boolean b) h))

  -- and the other way
  each-boolean : (b : Boolean) → AtomsOfBoolean P b → AllByRecursion P (atoms_in_boolean b)
  each-boolean (Const _) h = tt
  each-boolean (Test a) h = (h, tt)
  each-boolean (Not b) h = each-boolean b h
  each-boolean (And b c) h = each-both P (atoms_in_boolean b) (atoms_in_boolean c) (each-boolean b h.0) (each-boolean c h.1)
  each-boolean (Or b c) h = each-both P (atoms_in_boolean b) (atoms_in_boolean c) (each-boolean b h.0) (each-boolean c h.1)

  each-sequence : (r : Sequence) → AtomsOfSequence P r → AllByRecursion P (atoms_in_sequence r)
  each-sequence Empty h = tt
  each-sequence (One b) h = each-boolean b h
  each-sequence (Concat r s) h = each-both P (atoms_in_sequence r) (atoms_in_sequence s) (each-sequence r h.0) (each-sequence s h.1)
  each-sequence (Fuse r s) h = each-both P (atoms_in_sequence r) (atoms_in_sequence s) (each-sequence r h.0) (each-sequence s h.1)
  each-sequence (Either r s) h = each-both P (atoms_in_sequence r) (atoms_in_sequence s) (each-sequence r h.0) (each-sequence s h.1)
  each-sequence (Both r s) h = each-both P (atoms_in_sequence r) (atoms_in_sequence s) (each-sequence r h.0) (each-sequence s h.1)
  each-sequence (Star r) h = each-sequence r h
  each-sequence (Clocked r b) h = each-both P (atoms_in_sequence r) (atoms_in_boolean b) (each-sequence r h.0) (each-boolean b h.1)

  each-formula : (f : Formula) → AtomsOfFormula P f → AllByRecursion P (atoms_in f)
  each-formula (Now b) h = each-boolean b h
  each-formula (NowStrong b) h = each-boolean b h
  each-formula (Weak r) h = each-sequence r h
  each-formula (Strong r) h = each-sequence r h
  each-formula (Not f) h = each-formula f h
  each-formula (And f g) h = each-both P (atoms_in f) (atoms_in g) (each-formula f h.0) (each-formula g h.1)
  each-formula (Next f) h = each-formula f h
  each-formula (Until f g) h = each-both P (atoms_in f) (atoms_in g) (each-formula f h.0) (each-formula g h.1)
  each-formula (Suffix r f) h = each-both P (atoms_in_sequence r) (atoms_in f) (each-sequence r h.0) (each-formula f h.1)
  each-formula (Abort f b) h = each-both P (atoms_in f) (atoms_in_boolean b) (each-formula f h.0) (each-boolean b h.1)
  each-formula (SyncAbort f b) h = each-both P (atoms_in f) (atoms_in_boolean b) (each-formula f h.0) (each-boolean b h.1)
  each-formula (Clocked f b) h = each-both P (atoms_in f) (atoms_in_boolean b) (each-formula f h.0) (each-boolean b h.1)

-- what each atom of a formula has, those that are tested have
pub tested-have : (P : Atom → Type 0) (f : Formula) (atoms : List Atom) → AreTested f atoms → AtomsOfFormula P f → All P atoms
tested-have P f atoms tested h =
    All-weaker (Contains (atoms_in f)) P (λ a c. All-contains P (atoms_in f) a (All-from_recursion P (atoms_in f) (each-formula P f h)) c) atoms tested.only

-- no list has more atoms than its tree has constructors
boolean-few : (b : Boolean) → length (atoms_in_boolean b) ≤ boolean_size b
boolean-few (Const _) = omega arith
boolean-few (Test _) = omega arith
boolean-few (Not b) = let x = boolean-few b in omega arith
boolean-few (And b c) = let x = boolean-few b in let y = boolean-few c in omega (arith, length-append (atoms_in_boolean b) (atoms_in_boolean c))
boolean-few (Or b c) = let x = boolean-few b in let y = boolean-few c in omega (arith, length-append (atoms_in_boolean b) (atoms_in_boolean c))

sequence-few : (r : Sequence) → length (atoms_in_sequence r) ≤ sequence_size r
sequence-few Empty = omega arith
sequence-few (One b) = let x = boolean-few b in omega arith
sequence-few (Concat r s) = let x = sequence-few r in let y = sequence-few s in omega (arith, length-append (atoms_in_sequence r) (atoms_in_sequence s))
sequence-few (Fuse r s) = let x = sequence-few r in let y = sequence-few s in omega (arith, length-append (atoms_in_sequence r) (atoms_in_sequence s))
sequence-few (Either r s) = let x = sequence-few r in let y = sequence-few s in omega (arith, length-append (atoms_in_sequence r) (atoms_in_sequence s))
sequence-few (Both r s) = let x = sequence-few r in let y = sequence-few s in omega (arith, length-append (atoms_in_sequence r) (atoms_in_sequence s))
sequence-few (Star r) = let x = sequence-few r in omega arith
sequence-few (Clocked r b) = let x = sequence-few r in let y = boolean-few b in omega (arith, length-append (atoms_in_sequence r) (atoms_in_boolean b))

formula-few : (f : Formula) → length (atoms_in f) ≤ formula_size f
formula-few (Now b) = let x = boolean-few b in omega arith
formula-few (NowStrong b) = let x = boolean-few b in omega arith
formula-few (Weak r) = let x = sequence-few r in omega arith
formula-few (Strong r) = let x = sequence-few r in omega arith
formula-few (Not f) = let x = formula-few f in omega arith
formula-few (And f g) = let x = formula-few f in let y = formula-few g in omega (arith, length-append (atoms_in f) (atoms_in g))
formula-few (Next f) = let x = formula-few f in omega arith
formula-few (Until f g) = let x = formula-few f in let y = formula-few g in omega (arith, length-append (atoms_in f) (atoms_in g))
formula-few (Suffix r f) = let x = sequence-few r in let y = formula-few f in omega (arith, length-append (atoms_in_sequence r) (atoms_in f))
formula-few (Abort f b) = let x = formula-few f in let y = boolean-few b in omega (arith, length-append (atoms_in f) (atoms_in_boolean b))
formula-few (SyncAbort f b) = let x = formula-few f in let y = boolean-few b in omega (arith, length-append (atoms_in f) (atoms_in_boolean b))
formula-few (Clocked f b) = let x = formula-few f in let y = boolean-few b in omega (arith, length-append (atoms_in f) (atoms_in_boolean b))

same-itself : (a : Atom) → is_same_atom a a ≡ true
same-itself a = rw (eq-eqb a.signal a.signal refl, eq-eqb a.bit a.bit refl, eq-eqb (edge_number a.edge) (edge_number a.edge) refl) refl

one-found : (atoms : List Atom) (a : Atom) → is_among (with_one atoms a) a ≡ true
one-found atoms a = by (is_among atoms a) refl
  where
    by : (b : Truth) → is_among atoms a ≡ b → is_among (if b then atoms else atoms ++ a ∷ []) a ≡ true
    by true e = e
    by false e =
        list_any-append (λ other. is_same_atom a other) atoms (a ∷ [])
        ∙ or_right (is_among atoms a) (is_same_atom a a || false) (or_left (is_same_atom a a) false (same-itself a))

one-kept : (atoms : List Atom) (a b : Atom) → is_among atoms b ≡ true → is_among (with_one atoms a) b ≡ true
one-kept atoms a b h = by (is_among atoms a)
  where
    by : (c : Truth) → is_among (if c then atoms else atoms ++ a ∷ []) b ≡ true
    by true = h
    by false = list_any-append (λ other. is_same_atom b other) atoms (a ∷ []) ∙ or_left (is_among atoms b) (is_same_atom b a || false) h

new-kept : (atoms xs : List Atom) (b : Atom) → is_among atoms b ≡ true → is_among (with_new atoms xs) b ≡ true
new-kept atoms [] b h = h
new-kept atoms (x ∷ xs) b h = new-kept (with_one atoms x) xs b (one-kept atoms x b h)

new-found : (atoms xs : List Atom) → AllByRecursion (λ x. IsTrue (is_among (with_new atoms xs) x)) xs
new-found atoms [] = tt
new-found atoms (x ∷ xs) = (new-kept (with_one atoms x) xs x (one-found atoms x), new-found (with_one atoms x) xs)

one-have : (P : Atom → Type 0) (atoms : List Atom) (a : Atom) → AllByRecursion P atoms → P a → AllByRecursion P (with_one atoms a)
one-have P atoms a h k = by (is_among atoms a)
  where
    by : (c : Truth) → AllByRecursion P (if c then atoms else atoms ++ a ∷ [])
    by true = h
    by false = each-both P atoms (a ∷ []) h (k, tt)

new-have : (P : Atom → Type 0) (atoms xs : List Atom) → AllByRecursion P atoms → AllByRecursion P xs → AllByRecursion P (with_new atoms xs)
new-have P atoms [] h k = h
new-have P atoms (x ∷ xs) h k = new-have P (with_one atoms x) xs (one-have P atoms x h k.0) k.1

one-few : (atoms : List Atom) (a : Atom) → length (with_one atoms a) ≤ length atoms + 1
one-few atoms a = by (is_among atoms a)
  where
    by : (c : Truth) → length (if c then atoms else atoms ++ a ∷ []) ≤ length atoms + 1
    by true = omega arith
    by false = omega (arith, length_push atoms a)

new-few : (atoms xs : List Atom) → length (with_new atoms xs) ≤ length atoms + length xs
new-few atoms [] = omega arith
new-few atoms (x ∷ xs) = let e = one-few atoms x in let f = new-few (with_one atoms x) xs in omega arith

-- no atom is the same as one before it
abbrev IsOnce : List Atom → Type 0
IsOnce atoms = (place : ℕ) (other : Atom) → place < length atoms → is_among (take place atoms) (get_or atoms place other) ≡ false

get_or-front : (xs : List Atom) (a d : Atom) (k : ℕ) → k < length xs → get_or (xs ++ a ∷ []) k d ≡ get_or xs k d
get_or-front [] a d k h = absurd (omega arith)
get_or-front (x ∷ xs) a d zero h = refl
get_or-front (x ∷ xs) a d (suc k) h = get_or-front xs a d k (omega arith)

push-once : (atoms : List Atom) (a : Atom) → IsOnce atoms → is_among atoms a ≡ false → IsOnce (atoms ++ a ∷ [])
push-once atoms a once new place other h =
    elim (cases_lt place (length atoms)) as (λ _. is_among (take place (atoms ++ a ∷ [])) (get_or (atoms ++ a ∷ []) place other) ≡ false) [
      | inl lt ↦ (let le : place ≤ length atoms = omega arith in
          ap (λ xs. is_among xs (get_or (atoms ++ a ∷ []) place other)) (take-append-le place atoms (a ∷ []) le)
          ∙ ap (λ b. is_among (take place atoms) b) (get_or-front atoms a other place lt) ∙ once place other lt)
      | inr ge ↦ (let last : length atoms ≡ place = omega (arith, length_push atoms a) in
          ap (λ xs. is_among xs (get_or (atoms ++ a ∷ []) place other)) (take_at atoms (a ∷ []) place last)
          ∙ ap (λ b. is_among atoms b) (get_or_push atoms a other place last) ∙ new)
    ]

one-once : (atoms : List Atom) (a : Atom) → IsOnce atoms → IsOnce (with_one atoms a)
one-once atoms a once = by (is_among atoms a) refl
  where
    by : (c : Truth) → is_among atoms a ≡ c → IsOnce (if c then atoms else atoms ++ a ∷ [])
    by true e = once
    by false e = push-once atoms a once e

new-once : (atoms xs : List Atom) → IsOnce atoms → IsOnce (with_new atoms xs)
new-once atoms [] once = once
new-once atoms (x ∷ xs) once = new-once (with_one atoms x) xs (one-once atoms x once)

-- the atoms of a formula, each added to none
pub are_tested : (f : Formula) → AreTested f (with_new [] (atoms_in f))
are_tested f = record {
  all = formula-each (λ atom. IsTrue (is_among (with_new [] (atoms_in f)) atom)) f (new-found [] (atoms_in f));
  only = All-from_recursion (Contains (atoms_in f)) (with_new [] (atoms_in f))
      (new-have (Contains (atoms_in f)) [] (atoms_in f) tt (recursion_from_All (Contains (atoms_in f)) (atoms_in f) (All-contains_itself (atoms_in f))));
  once = new-once [] (atoms_in f) (λ place other h. absurd (none place h));
  few = let e = new-few [] (atoms_in f) in let x = formula-few f in omega arith;
}
  where
    none : (k : ℕ) → k < 0 → ⊥
    none k h = omega arith

-- the same of a list that was made by adding them
pub tested : (f : Formula) (none atoms : List Atom) → none ≡ [] → atoms ≡ with_new none (atoms_in f) → AreTested f atoms
tested f none atoms e h = subst (AreTested f) (sym (h ∙ ap (λ xs. with_new xs (atoms_in f)) e)) (are_tested f)
