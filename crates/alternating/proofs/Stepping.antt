-- One step back over a packed letter gives the values at that letter.
use Rattle.std.proofs.Common.{◌≡◌, inl, inr, refl, sym, ap, ◌∙◌, ℕ, zero, suc, Bool as Truth, true, false, if◌then◌else◌, List, [], ◌∷◌, ◌++◌, ◌+◌, ◌<◌, length, get_or, arith, map, not}
use Rattle.std.specs.Prelude.{IsTrue, ◌&&◌, ◌||◌, ◌==◌}
use Rattle.std.proofs.lemmas.Bool.{or_cases, or_left, or_right, and_parts, both_ways}
use Rattle.psl_tree.specs.Followed.{Past, Nothing, Tops, Bottoms}
use Rattle.psl_tree.specs.Atoms.{AtomsOfBoolean}
use Rattle.psl_tree.specs.Holds.{holds_among, is_same_atom, edge_number}
use Rattle.psl_tree.specs.Trees as trees
use Rattle.psl_tree.specs.Trees.{Boolean}
use Rattle.psl_tree.specs.declared.atom.Atom.{Atom}
use Rattle.psl_tree.specs.declared.letter.Letter.{Letter}
use Rattle.psl_tree.specs.declared.letter.Letter.TheVariants.{Top, Bottom, Holds as Atoms}
use Rattle.alternating_theory.specs.Obligations.{Obligation, Automaton, never, obligation_at, value_of}
use Rattle.alternating_theory.specs.Positive.{Positive, Const, Holds, Owed, And, Or, met}
use Rattle.alternating_theory.proofs.Aborts.{same-test}
use Rattle.alternating_theory.proofs.Reached.{same-number, met-owed}
use Rattle.alternating_theory.specs.Atoms.{AtomsOfPositive, AtomsOfObligations, is_among}
use Rattle.alternating.specs.Packed.{is_set, held_from, letter_of, is_held, BitsTell}
use Rattle.alternating.specs.Stepped.{value_at, stepped, StepsBack, StartTells, BitsPack}

-- the same atom is the same as the same others
same-moves : (a b c : Atom) → IsTrue (is_same_atom a b) → is_same_atom a c ≡ is_same_atom b c
same-moves a b c h =
    let parts = and_parts (a.signal == b.signal) ((a.bit == b.bit) && (edge_number a.edge == edge_number b.edge)) (grouped (a.signal == b.signal) (a.bit == b.bit) (edge_number a.edge == edge_number b.edge) h) in
    let rest = and_parts (a.bit == b.bit) (edge_number a.edge == edge_number b.edge) parts.1 in
    let signal = same-number a.signal b.signal parts.0 in
    let bit = same-number a.bit b.bit rest.0 in
    let edge = same-number (edge_number a.edge) (edge_number b.edge) rest.1 in
    cc
  where
    grouped : (x y z : Truth) → IsTrue (x && y && z) → IsTrue (x && (y && z))
    grouped true y z h = h
    grouped false y z h = h

pub held-moves : (a b : Atom) (held : List Atom) → IsTrue (is_same_atom a b) → is_held held a ≡ is_held held b
held-moves a b [] h = refl
held-moves a b (c ∷ held) h = let e = same-moves a b c h in let f = held-moves a b held h in cc

held-append : (xs ys : List Atom) (a : Atom) → is_held (xs ++ ys) a ≡ (is_held xs a || is_held ys a)
held-append [] ys a = refl
held-append (x ∷ xs) ys a = ap (λ (t : Truth). is_same_atom a x || t) (held-append xs ys a) ∙ grouped (is_same_atom a x) (is_held xs a) (is_held ys a)
  where
    grouped : (x y z : Truth) → (x || (y || z)) ≡ ((x || y) || z)
    grouped true y z = refl
    grouped false y z = refl

-- the front of a list that may be empty
front-held : (b : Truth) (x a : Atom) → is_held (if b then x ∷ [] else []) a ≡ (b && is_same_atom a x)
front-held true x a = or-none (is_same_atom a x)
  where
    or-none : (t : Truth) → (t || false) ≡ t
    or-none true = refl
    or-none false = refl
front-held false x a = refl

held-sound : (place : ℕ) (words : List ℕ) (atoms held : List Atom) → BitsTell place words atoms held → (a : Atom)
    → IsTrue (is_held (held_from place words atoms) a) → IsTrue (is_held held a)
held-sound place words [] held tell a h = absurd (both_ways false refl h)
held-sound place words (x ∷ atoms) held tell a h =
    elim (or_cases (is_held (if is_set words place then x ∷ [] else []) a) (is_held (held_from (suc place) words atoms) a)
    (sym (held-append (if is_set words place then x ∷ [] else []) (held_from (suc place) words atoms) a) ∙ h)) as (λ _. IsTrue (is_held held a)) [
      | inl k ↦ (let parts = and_parts (is_set words place) (is_same_atom a x) (sym (front-held (is_set words place) x a) ∙ k) in
          held-moves a x held parts.1 ∙ (sym tell.0 ∙ parts.0))
      | inr k ↦ held-sound (suc place) words atoms held tell.1 a k
    ]

held-whole : (place : ℕ) (words : List ℕ) (atoms held : List Atom) → BitsTell place words atoms held → (a : Atom)
    → IsTrue (is_among atoms a) → IsTrue (is_held held a) → IsTrue (is_held (held_from place words atoms) a)
held-whole place words [] held tell a among h = absurd (both_ways false refl among)
held-whole place words (x ∷ atoms) held tell a among h =
    held-append (if is_set words place then x ∷ [] else []) (held_from (suc place) words atoms) a
    ∙ elim (or_cases (is_same_atom a x) (is_among atoms a) among)
    as (λ _. IsTrue (is_held (if is_set words place then x ∷ [] else []) a || is_held (held_from (suc place) words atoms) a)) [
      | inl k ↦ or_left (is_held (if is_set words place then x ∷ [] else []) a) (is_held (held_from (suc place) words atoms) a)
          (front-held (is_set words place) x a ∙ (ap (λ (t : Truth). t && is_same_atom a x) (tell.0 ∙ (sym (held-moves a x held k) ∙ h)) ∙ k))
      | inr k ↦ or_right (is_held (if is_set words place then x ∷ [] else []) a) (is_held (held_from (suc place) words atoms) a) (held-whole (suc place) words atoms held tell.1 a k h)
    ]

module _ (words : List ℕ) (atoms held : List Atom) (tell : BitsTell 0 words atoms held) where
  Among : Atom → Type 0
  Among = λ atom. IsTrue (is_among atoms atom)

  atom-same : (a : Atom) → IsTrue (is_among atoms a) → is_held (held_from 0 words atoms) a ≡ is_held held a
  atom-same a among = same-test (is_held (held_from 0 words atoms) a) (is_held held a) (held-sound 0 words atoms held tell a) (held-whole 0 words atoms held tell a among)

  boolean-same : (b : Boolean) → AtomsOfBoolean (λ atom. IsTrue (is_among atoms atom)) b → holds_among (held_from 0 words atoms) b ≡ holds_among held b
  boolean-same (trees.Const v) t = refl
  boolean-same (trees.Test a) t = atom-same a t
  boolean-same (trees.Not b) t = ap (λ (v : Truth). not v) (boolean-same b t)
  boolean-same (trees.And b d) t = let x = boolean-same b t.0 in let y = boolean-same d t.1 in cc
  boolean-same (trees.Or b d) t = let x = boolean-same b t.0 in let y = boolean-same d t.1 in cc

  met-letter : (p : Positive) (f : ℕ → Truth) → AtomsOfPositive (λ atom. IsTrue (is_among atoms atom)) p → met p (letter_of atoms words) f ≡ met p (Atoms held) f
  met-letter (Const v) f t = refl
  met-letter (Holds b) f t = boolean-same b t
  met-letter (Owed q) f t = refl
  met-letter (And p r) f t = let x = met-letter p f t.0 in let y = met-letter r f t.1 in cc
  met-letter (Or p r) f t = let x = met-letter p f t.0 in let y = met-letter r f t.1 in cc

-- what is never met has the value false everywhere
pub never-value : (look : ℕ → Obligation) (p : Past) (xs : List Letter) → value_of look p never xs ≡ false
never-value look Nothing [] = refl
never-value look Tops [] = refl
never-value look Bottoms [] = refl
never-value look p (x ∷ xs) = refl

pub mapped-value : (f : Obligation → Truth) → f never ≡ false → (os : List Obligation) (q : ℕ) → value_at (map f os) q ≡ f (obligation_at os q)
mapped-value f e [] q = sym e
mapped-value f e (o ∷ os) zero = refl
mapped-value f e (o ∷ os) (suc q) = mapped-value f e os q

pub steps-back : (a : Automaton) (atoms : List Atom) (words : List ℕ) (next : List Truth) → StepsBack a atoms words next (stepped a (letter_of atoms words) next)
steps-back a atoms words next Top packs tests past letters e = absurd packs
steps-back a atoms words next Bottom packs tests past letters e = absurd packs
steps-back a atoms words next (Atoms held) packs tests past letters e = go a.obligations tests
  where
    look : ℕ → Obligation
    look = obligation_at a.obligations

    value-is : (q : ℕ) → value_at next q ≡ value_of (obligation_at a.obligations) past (obligation_at a.obligations q) letters
    value-is q = ap (λ (l : List Truth). value_at l q) e
        ∙ mapped-value (λ o. value_of (obligation_at a.obligations) past o letters) (never-value (obligation_at a.obligations) past letters) a.obligations q

    go : (os : List Obligation) → AtomsOfObligations (λ atom. IsTrue (is_among atoms atom)) os
        → map (λ o. met o.delta (letter_of atoms words) (λ number. value_at next number)) os
        ≡ map (λ o. value_of (obligation_at a.obligations) past o (Atoms held ∷ letters)) os
    go [] t = refl
    go (o ∷ os) t =
        let x = met-letter words atoms held packs o.delta (λ number. value_at next number) t.0
        ∙ met-owed o.delta (Atoms held) (λ number. value_at next number) (λ q. value_of (obligation_at a.obligations) past (obligation_at a.obligations q) letters) (λ q _. value-is q) in
        ap (λ (v : Truth). v ∷ map (λ o. met o.delta (letter_of atoms words) (λ number. value_at next number)) os) x
        ∙ ap (λ (l : List Truth). value_of (obligation_at a.obligations) past o (Atoms held ∷ letters) ∷ l) (go os t.1)

pub start_tells : (a : Automaton) → StartTells a
start_tells a past letters =
    mapped-value (λ o. value_of (obligation_at a.obligations) past o letters) (never-value (obligation_at a.obligations) past letters) a.obligations a.start

bits-from : (place : ℕ) (words : List ℕ) (atoms held : List Atom)
    → ((k : ℕ) (other : Atom) → k < length atoms → is_set words (place + k) ≡ is_held held (get_or atoms k other)) → BitsTell place words atoms held
bits-from place words [] held e = tt
bits-from place words (a ∷ atoms) held e = (
  ap (λ n. is_set words n) (add-none place) ∙ e 0 a (omega arith),
  bits-from (suc place) words atoms held (λ k other h. ap (λ n. is_set words n) (add-more place k) ∙ e (suc k) other (omega arith)),
)
  where
    add-none : (n : ℕ) → n ≡ n + 0
    add-none n = omega arith

    add-more : (n k : ℕ) → suc n + k ≡ n + suc k
    add-more n k = omega arith

pub bits_pack : (atoms : List Atom) → BitsPack atoms
bits_pack atoms words held e = bits-from 0 words atoms held (λ k other h. ap (λ n. is_set words n) (from-none k) ∙ e k other h)
  where
    from-none : (k : ℕ) → 0 + k ≡ k
    from-none k = omega arith
