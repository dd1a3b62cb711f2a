-- Merging and the dual change places.
use Rattle.std.proofs.Common.{◌≡◌, refl, ap, ◌∙◌, ℕ, zero, suc, ◌≤◌, ◌<◌, Bool as Truth, true, false, List, length, map, arith}
use Rattle.std.specs.Prelude.{◌&&◌, ◌==◌, nat_le, if◌then◌else◌}
use Rattle.std.proofs.lemmas.Bool.{leb-true}
use Rattle.std.proofs.lemmas.List.{length-map}
use Rattle.alternating_theory.specs.Construction.{opposite_obligation}
use Rattle.alternating_theory.specs.Dual.{opposite_automaton}
use Rattle.alternating_theory.specs.Merged.{all_below, fits_at, fits, is_first, joined, merged_by, same_obligation}
use Rattle.alternating_theory.specs.Obligations.{Obligation, Automaton, obligation_at}
use Rattle.alternating_theory.specs.Trimmed.{count_below, kept, renumbered_obligation}
use Rattle.alternating_theory.proofs.Duals.{kept-opposite, all-renumbered, one-renumbered}
use Rattle.alternating_theory.proofs.Same.{obligation-turned}
use Rattle.alternating_theory.proofs.Values.{at-map}

all-same : (n : ℕ) (f g : ℕ → Truth) → ((q : ℕ) → q < n → f q ≡ g q) → all_below n f ≡ all_below n g
all-same zero f g e = refl
all-same (suc n) f g e = let a = e n (omega arith) in let b = all-same n f g (λ q l. e q (omega arith)) in cc

module _ (os : List Obligation) (class : ℕ → ℕ) where
  asks : (q : ℕ) → q < length os → renumbered_obligation class (obligation_at (map opposite_obligation os) q) ≡ opposite_obligation (renumbered_obligation class (obligation_at os q))
  asks q l = ap (λ (o : Obligation). renumbered_obligation class o) (at-map opposite_obligation os q l) ∙ one-renumbered class (obligation_at os q)

  fits-same : (q : ℕ) → q < length os → fits_at (map opposite_obligation os) class q ≡ fits_at os class q
  fits-same q l = at (nat_le (class q) q) refl
    where
      both : class q ≤ q → same_obligation (renumbered_obligation class (obligation_at (map opposite_obligation os) (class q))) (renumbered_obligation class (obligation_at (map opposite_obligation os) q))
          ≡ same_obligation (renumbered_obligation class (obligation_at os (class q))) (renumbered_obligation class (obligation_at os q))
      both k =
          ap (λ (o : Obligation). same_obligation o (renumbered_obligation class (obligation_at (map opposite_obligation os) q))) (asks (class q) (omega arith))
          ∙ ap (λ (o : Obligation). same_obligation (opposite_obligation (renumbered_obligation class (obligation_at os (class q)))) o) (asks q l)
          ∙ obligation-turned (renumbered_obligation class (obligation_at os (class q))) (renumbered_obligation class (obligation_at os q))

      at : (b : Truth) → nat_le (class q) q ≡ b
          → (b && ((class (class q) == class q) && same_obligation (renumbered_obligation class (obligation_at (map opposite_obligation os) (class q))) (renumbered_obligation class (obligation_at (map opposite_obligation os) q))))
          ≡ (b && ((class (class q) == class q) && same_obligation (renumbered_obligation class (obligation_at os (class q))) (renumbered_obligation class (obligation_at os q))))
      at true e = ap (λ (t : Truth). (class (class q) == class q) && t) (both (leb-true (class q) q e))
      at false e = refl

fits-opposite : (a : Automaton) (class : ℕ → ℕ) → fits (opposite_automaton a) class ≡ fits a class
fits-opposite a class =
    ap (λ n. (class a.start == a.start) && all_below n (fits_at (map opposite_obligation a.obligations) class)) (length-map a.obligations opposite_obligation)
    ∙ ap (λ (t : Truth). (class a.start == a.start) && t)
    (all-same (length a.obligations) (fits_at (map opposite_obligation a.obligations) class) (fits_at a.obligations class) (fits-same a.obligations class))

joined-opposite : (a : Automaton) (class : ℕ → ℕ) → joined (opposite_automaton a) class ≡ opposite_automaton (joined a class)
joined-opposite a class =
    ap (λ (l : List Obligation). let made : Automaton = record { start = count_below a.start (is_first class); obligations = l } in made)
    (ap (λ (l : List Obligation). map (λ o. renumbered_obligation (λ n. count_below (class n) (is_first class)) o) l) (kept-opposite (is_first class) a.obligations)
    ∙ all-renumbered (λ n. count_below (class n) (is_first class)) (kept (is_first class) a.obligations))

pub merged_opposite : (class : ℕ → ℕ) (a : Automaton) → merged_by class (opposite_automaton a) ≡ opposite_automaton (merged_by class a)
merged_opposite class a =
    ap (λ (b : Truth). if b then joined (opposite_automaton a) class else opposite_automaton a) (fits-opposite a class) ∙ at (fits a class)
  where
    at : (b : Truth) → (if b then joined (opposite_automaton a) class else opposite_automaton a) ≡ opposite_automaton (if b then joined a class else a)
    at true = joined-opposite a class
    at false = refl
