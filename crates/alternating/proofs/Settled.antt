-- Obligations in the making whose negations are carried out, one after the other.
use Rattle.std.proofs.Common.{◌≡◌, refl, sym, ap, ◌∙◌, subst, ℕ, ◌+◌, List, [], ◌∷◌, ◌++◌, length, append_assoc, append-nil, arith}
use Rattle.std.specs.List.{AllByRecursion}
use Rattle.std.proofs.lemmas.List.{map_push, length-map, length-append}
use Rattle.std.proofs.lemmas.List.Elements.{All-from_recursion, recursion_from_All}
use Rattle.alternating_theory.specs.Obligations.{Obligation}
use Rattle.alternating_theory.specs.Positive.{OwesWithin}
use Rattle.alternating.specs.Pending.{pending_of, pendings_of, PendingWithin}
use Rattle.alternating.specs.Views.{obligation_of, obligations_of_code, ObligationsWithin, positive_of}
use Rattle.alternating.specs.declared.obligation.Obligation as code_obligation
use Rattle.alternating.specs.declared.pending.Pending as code_pending

-- one more is settled
pub settled-more : (old new : List code_obligation.Obligation) (o : code_obligation.Obligation) (p : code_pending.Pending) (rest : List code_pending.Pending) (all : List Obligation)
    → obligations_of_code old ++ pendings_of (p ∷ rest) ≡ all → new ≡ old ++ o ∷ [] → obligation_of o ≡ pending_of p
    → obligations_of_code new ++ pendings_of rest ≡ all
settled-more old new o p rest all e n s =
    ap (λ (l : List code_obligation.Obligation). obligations_of_code l ++ pendings_of rest) n
    ∙ ap (λ (l : List Obligation). l ++ pendings_of rest) (map_push obligation_of old o)
    ∙ append_assoc (obligations_of_code old) (obligation_of o ∷ []) (pendings_of rest)
    ∙ ap (λ (x : Obligation). obligations_of_code old ++ (x ∷ pendings_of rest)) s
    ∙ e

none-left : {X : Type 0} (xs : List X) → length xs ≡ 0 → xs ≡ []
none-left [] is = refl
none-left (x ∷ xs) is = absurd (omega (arith, is))

-- none is left
pub settled-all : (made : List code_obligation.Obligation) (rest : List code_pending.Pending) (all : List Obligation)
    → obligations_of_code made ++ pendings_of rest ≡ all → length rest ≡ 0 → obligations_of_code made ≡ all
settled-all made rest all e n =
    sym (append-nil (obligations_of_code made)) ∙ ap (λ (l : List code_pending.Pending). obligations_of_code made ++ pendings_of l) (sym (none-left rest n)) ∙ e

Each : ℕ → ℕ → List Obligation → Type 0
Each low high [] = Unit {0}
Each low high (o ∷ os) = OwesWithin low high o.delta × Each low high os

each-pending : (low high : ℕ) (ps : List code_pending.Pending) → AllByRecursion (λ (p : code_pending.Pending). OwesWithin low high (pending_of p).delta) ps → Each low high (pendings_of ps)
unfolding Each
each-pending low high [] w = tt
each-pending low high (p ∷ ps) w = (w.0, each-pending low high ps w.1)

each-plain : (low high : ℕ) (os : List code_obligation.Obligation) → Each low high (obligations_of_code os) → AllByRecursion (λ (o : code_obligation.Obligation). OwesWithin low high (positive_of o.delta)) os
unfolding Each
each-plain low high [] w = tt
each-plain low high (o ∷ os) w = (w.0, each-plain low high os w.1)

each-more : (low high : ℕ) (ps : List code_pending.Pending) (p : code_pending.Pending) → Each low high (pendings_of ps) → OwesWithin low high (pending_of p).delta → Each low high (pendings_of (ps ++ p ∷ []))
unfolding Each
each-more low high [] p w h = (h, tt)
each-more low high (q ∷ ps) p w h = (w.0, each-more low high ps p w.1 h)

-- settled obligations owe what they owed before: those of a part, its start last
pub part-settled : (high : ℕ) (ps : List code_pending.Pending) (p : code_pending.Pending) (os : List code_obligation.Obligation) → obligations_of_code os ≡ pendings_of (ps ++ p ∷ [])
    → PendingWithin 0 high ps → OwesWithin 0 high (pending_of p).delta → ObligationsWithin 0 high os
part-settled high ps p os e w h =
    All-from_recursion (λ (o : code_obligation.Obligation). OwesWithin 0 high (positive_of o.delta)) os
    (each-plain 0 high os (subst (λ (l : List Obligation). Each 0 high l) (sym e)
    (each-more 0 high ps p (each-pending 0 high ps (recursion_from_All (λ (p : code_pending.Pending). OwesWithin 0 high (pending_of p).delta) ps w)) h)))

pub part-many : (ps : List code_pending.Pending) (p : code_pending.Pending) (os : List code_obligation.Obligation) → obligations_of_code os ≡ pendings_of (ps ++ p ∷ []) → length os ≡ length ps + 1
part-many ps p os e =
    omega (arith, sym (length-map os obligation_of) ∙ ap (λ (l : List Obligation). length l) e ∙ length-map (ps ++ p ∷ []) pending_of, length-append ps (p ∷ []))
