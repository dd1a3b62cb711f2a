-- What is known of the program's part for a formula: it is the part of the construction.
use Rattle.std.proofs.Common.{◌≡◌, ℕ, ◌+◌, ◌≤◌, ◌<◌, List, [], ◌∷◌, length, map, sym, subst, arith}
use Rattle.std.specs.List.{AllByRecursion}
use Rattle.std.specs.Prelude.{All, Result, Ok, Err, IfOk, Box}
use Rattle.std.specs.declared.alloc.Global.{Global}
use Rattle.psl_base.specs.declared.items.NoMemory.{NoMemory}
use Rattle.std.proofs.lemmas.List.{length-map}
use Rattle.std.proofs.lemmas.List.Elements.{All-from_recursion, recursion_from_All}
use Rattle.psl_tree.specs.Clockless.{IsPlain}
use Rattle.psl_tree.specs.Counts.{obligations_of}
use Rattle.psl_tree.specs.Trees.{Formula}
use Rattle.alternating_theory.specs.Construction.{Part, part_of}
use Rattle.alternating_theory.specs.Obligations.{Obligation, numbered}
use Rattle.alternating_theory.specs.Positive.{OwesWithin}
use Rattle.alternating_theory.proofs.Counts.{part-count}
use Rattle.alternating_theory.proofs.Means.{part-means}
use Rattle.alternating_theory.proofs.MetLaws.{within-wider}
use Rattle.alternating_theory.proofs.Parts.{IsRight}
use Rattle.alternating_theory.proofs.Values.{EachRight}
use Rattle.alternating.specs.Parts.{part_of_code, PartWithin}
use Rattle.alternating.specs.Pending.{pending_of, pendings_of, PendingWithin}
use Rattle.alternating.specs.Views.{obligation_of, ObligationsWithin}
use Rattle.alternating.specs.declared.obligation.Obligation as code_obligation
use Rattle.alternating.specs.declared.part.Part as code_part

-- lists of the program, of which each member is seen as an obligation
module _ {X : Type 0} (view : X → Obligation) where
  each-recursion : (look : ℕ → Obligation) (low high : ℕ) (xs : List X) → EachRight look low high (map view xs) → AllByRecursion (λ (x : X). OwesWithin low high (view x).delta) xs
  each-recursion look low high [] r = tt
  each-recursion look low high (x ∷ xs) r = (r.0.within, each-recursion look low high xs r.1)

  each-within : (look : ℕ → Obligation) (low high : ℕ) (xs : List X) → EachRight look low high (map view xs) → All (λ (x : X). OwesWithin low high (view x).delta) xs
  each-within look low high xs r = All-from_recursion (λ (x : X). OwesWithin low high (view x).delta) xs (each-recursion look low high xs r)

  wider-recursion : (low high low' high' : ℕ) → low' ≤ low → high ≤ high' → (xs : List X) → AllByRecursion (λ (x : X). OwesWithin low high (view x).delta) xs
      → AllByRecursion (λ (x : X). OwesWithin low' high' (view x).delta) xs
  wider-recursion low high low' high' l h [] w = tt
  wider-recursion low high low' high' l h (x ∷ xs) w = (within-wider low high low' high' l h (view x).delta w.0, wider-recursion low high low' high' l h xs w.1)

  wider : (low high low' high' : ℕ) → low' ≤ low → high ≤ high' → (xs : List X) → All (λ (x : X). OwesWithin low high (view x).delta) xs → All (λ (x : X). OwesWithin low' high' (view x).delta) xs
  wider low high low' high' l h xs w =
      All-from_recursion (λ (x : X). OwesWithin low' high' (view x).delta) xs
      (wider-recursion low high low' high' l h xs (recursion_from_All (λ (x : X). OwesWithin low high (view x).delta) xs w))

pub obligations-wider : (low high low' high' : ℕ) → low' ≤ low → high ≤ high' → (os : List code_obligation.Obligation) → ObligationsWithin low high os → ObligationsWithin low' high' os
obligations-wider low high low' high' l h os w = wider obligation_of low high low' high' l h os w

pub part-wider : (low high low' high' : ℕ) → low' ≤ low → high ≤ high' → (part : code_part.Part) → PartWithin low high part → PartWithin low' high' part
part-wider low high low' high' l h part w =
    (within-wider low high low' high' l h (pending_of part.start).delta w.0, wider pending_of low high low' high' l h part.rest.items w.1)

built-within : (offset : ℕ) (f : Formula) (part : code_part.Part) → IsPlain f → part_of_code part ≡ part_of offset f
    → PartWithin offset (offset + length part.rest.items) part
built-within offset f part h e =
    let right : IsRight offset (part_of_code part) = subst (λ (p : Part). IsRight offset p) (sym e) (part-means offset f h).right in
    let total : length (pendings_of part.rest.items) ≡ length part.rest.items = length-map part.rest.items pending_of in (
      subst (λ (n : ℕ). OwesWithin offset (offset + n) (pending_of part.start).delta) total right.start.within,
      subst (λ (n : ℕ). PendingWithin offset (offset + n) part.rest.items) total
          (each-within pending_of (numbered offset (pendings_of part.rest.items)) offset (offset + length (pendings_of part.rest.items)) part.rest.items right.rest),
    )

built-count : (offset : ℕ) (f : Formula) (part : code_part.Part) → IsPlain f → part_of_code part ≡ part_of offset f → length part.rest.items < obligations_of f
built-count offset f part h e =
    let count : length (pendings_of part.rest.items) + 1 ≤ obligations_of f = subst (λ (p : Part). length p.rest + 1 ≤ obligations_of f) (sym e) (part-count offset f h) in
    omega (arith, count, length-map part.rest.items pending_of)

-- what a call that makes the part of a formula tells besides
pub built-ok-within : (offset : ℕ) (f : Formula) (made : Result (Box code_part.Part Global) NoMemory) → IsPlain f → IfOk made (λ part. part_of_code part.value ≡ part_of offset f)
    → IfOk made (λ part. PartWithin offset (offset + length part.value.rest.items) part.value)
built-ok-within offset f (Ok part) h e = built-within offset f part.value h e
built-ok-within offset f (Err e) h _ = tt

pub built-ok-count : (offset : ℕ) (f : Formula) (made : Result (Box code_part.Part Global) NoMemory) → IsPlain f → IfOk made (λ part. part_of_code part.value ≡ part_of offset f)
    → IfOk made (λ part. length part.value.rest.items < obligations_of f)
built-ok-count offset f (Ok part) h e = built-count offset f part.value h e
built-ok-count offset f (Err e) h _ = tt
