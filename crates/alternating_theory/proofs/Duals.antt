-- The dual of the automaton of a formula is the automaton of the negation.
use Rattle.std.proofs.Common.{◌≡◌, refl, ap, ◌∙◌, ℕ, zero, suc, Bool as Truth, true, false, if◌then◌else◌, List, [], ◌∷◌, ◌++◌, length, map}
use Rattle.std.specs.Prelude.{◌&&◌, ◌||◌}
use Rattle.std.proofs.lemmas.List.{length-map}
use mathlib.Core.Path.{fun_ext}
use Rattle.alternating_theory.specs.Construction.{Part, opposite_obligation, not_part}
use Rattle.alternating_theory.specs.Built.{finished}
use Rattle.alternating_theory.specs.Dual.{opposite_automaton}
use Rattle.alternating_theory.specs.Obligations.{Obligation, Automaton, obligation_at}
use Rattle.alternating_theory.specs.Positive.{Positive, Const, Holds, Owed, And, Or, owes, renumbered, opposite}
use Rattle.alternating_theory.specs.Trimmed.{some_below, reached_within, is_reached, count_below, kept, renumbered_obligation, trimmed}

pub owes-opposite : (p : Positive) (q : ℕ) → owes (opposite p) q ≡ owes p q
owes-opposite (Const v) q = refl
owes-opposite (Holds b) q = refl
owes-opposite (Owed n) q = refl
owes-opposite (And p r) q = let a = owes-opposite p q in let b = owes-opposite r q in cc
owes-opposite (Or p r) q = let a = owes-opposite p q in let b = owes-opposite r q in cc

renumbered-opposite : (new : ℕ → ℕ) (p : Positive) → renumbered new (opposite p) ≡ opposite (renumbered new p)
renumbered-opposite new (Const v) = refl
renumbered-opposite new (Holds b) = refl
renumbered-opposite new (Owed n) = refl
renumbered-opposite new (And p r) = let a = renumbered-opposite new p in let b = renumbered-opposite new r in cc
renumbered-opposite new (Or p r) = let a = renumbered-opposite new p in let b = renumbered-opposite new r in cc

-- numbers and lists of duals

owes-at : (os : List Obligation) (by q : ℕ) → owes (obligation_at (map opposite_obligation os) by).delta q ≡ owes (obligation_at os by).delta q
owes-at [] by q = refl
owes-at (o ∷ os) zero q = owes-opposite o.delta q
owes-at (o ∷ os) (suc by) q = owes-at os by q

some-same : (n : ℕ) (f g : ℕ → Truth) → ((q : ℕ) → f q ≡ g q) → some_below n f ≡ some_below n g
some-same zero f g e = refl
some-same (suc n) f g e = let a = e n in let b = some-same n f g e in cc

within-same : (k : ℕ) (os : List Obligation) (start q : ℕ) → reached_within k (map opposite_obligation os) start q ≡ reached_within k os start q
within-same zero os start q = refl
within-same (suc k) os start q =
    ap (λ (t : Truth). t || some_below (length (map opposite_obligation os)) (λ by. reached_within k (map opposite_obligation os) start by && owes (obligation_at (map opposite_obligation os) by).delta q))
    (within-same k os start q)
    ∙ ap (λ n. reached_within k os start q || some_below n (λ by. reached_within k (map opposite_obligation os) start by && owes (obligation_at (map opposite_obligation os) by).delta q))
    (length-map os opposite_obligation)
    ∙ ap (λ (t : Truth). reached_within k os start q || t) (some-same (length os)
    (λ by. reached_within k (map opposite_obligation os) start by && owes (obligation_at (map opposite_obligation os) by).delta q)
    (λ by. reached_within k os start by && owes (obligation_at os by).delta q)
    (λ by. ap (λ (t : Truth). t && owes (obligation_at (map opposite_obligation os) by).delta q) (within-same k os start by) ∙ ap (λ (t : Truth). reached_within k os start by && t) (owes-at os by q)))

reached-same : (os : List Obligation) (start : ℕ) → is_reached (map opposite_obligation os) start ≡ is_reached os start
reached-same os start = fun_ext (λ q. ap (λ n. reached_within n (map opposite_obligation os) start q) (length-map os opposite_obligation) ∙ within-same (length os) os start q)

map-front : (b : Truth) (o : Obligation) (os : List Obligation) → (if b then opposite_obligation o ∷ [] else []) ++ map opposite_obligation os ≡ map opposite_obligation ((if b then o ∷ [] else []) ++ os)
map-front true o os = refl
map-front false o os = refl

pub kept-opposite : (test : ℕ → Truth) (os : List Obligation) → kept test (map opposite_obligation os) ≡ map opposite_obligation (kept test os)
kept-opposite test [] = refl
kept-opposite test (o ∷ os) =
    ap (λ (l : List Obligation). (if test zero then opposite_obligation o ∷ [] else []) ++ l) (kept-opposite (λ q. test (suc q)) os)
    ∙ map-front (test zero) o (kept (λ q. test (suc q)) os)

pub one-renumbered : (new : ℕ → ℕ) (o : Obligation) → renumbered_obligation new (opposite_obligation o) ≡ opposite_obligation (renumbered_obligation new o)
one-renumbered new o =
    ap (λ (d : Positive). let made : Obligation = record { delta = d; accepting = (opposite_obligation o).accepting; end = (opposite_obligation o).end; top = (opposite_obligation o).top; bottom = (opposite_obligation o).bottom } in made)
    (renumbered-opposite new o.delta)

pub all-renumbered : (new : ℕ → ℕ) (os : List Obligation)
    → map (λ o. renumbered_obligation new o) (map opposite_obligation os) ≡ map opposite_obligation (map (λ o. renumbered_obligation new o) os)
all-renumbered new [] = refl
all-renumbered new (o ∷ os) = let a = one-renumbered new o in let b = all-renumbered new os in cc

-- what the trimmed list is, by what is kept
kept_automaton : (ℕ → Truth) → List Obligation → ℕ → Automaton
kept_automaton keep os start = record { start = count_below start keep; obligations = map (λ o. renumbered_obligation (λ n. count_below n keep) o) (kept keep os) }

kept_automaton-opposite : (keep : ℕ → Truth) (os : List Obligation) (start : ℕ) → kept_automaton keep (map opposite_obligation os) start ≡ opposite_automaton (kept_automaton keep os start)
unfolding kept_automaton
kept_automaton-opposite keep os start =
    ap (λ (l : List Obligation). let made : Automaton = record { start = count_below start keep; obligations = l } in made)
    (ap (λ (l : List Obligation). map (λ o. renumbered_obligation (λ n. count_below n keep) o) l) (kept-opposite keep os) ∙ all-renumbered (λ n. count_below n keep) (kept keep os))

pub trimmed-opposite : (os : List Obligation) (start : ℕ) → trimmed (map opposite_obligation os) start ≡ opposite_automaton (trimmed os start)
unfolding kept_automaton
trimmed-opposite os start =
    ap (λ (keep : ℕ → Truth). kept_automaton keep (map opposite_obligation os) start) (reached-same os start) ∙ kept_automaton-opposite (is_reached os start) os start

map-last : (os : List Obligation) (o : Obligation) → map opposite_obligation os ++ opposite_obligation o ∷ [] ≡ map opposite_obligation (os ++ o ∷ [])
map-last [] o = refl
map-last (p ∷ os) o = ap (λ (l : List Obligation). opposite_obligation p ∷ l) (map-last os o)

pub finished-opposite : (part : Part) → finished (not_part part) ≡ opposite_automaton (finished part)
finished-opposite part =
    ap (λ (l : List Obligation). trimmed l (length (map opposite_obligation part.rest))) (map-last part.rest part.start)
    ∙ ap (λ n. trimmed (map opposite_obligation (part.rest ++ part.start ∷ [])) n) (length-map part.rest opposite_obligation)
    ∙ trimmed-opposite (part.rest ++ part.start ∷ []) (length part.rest)
