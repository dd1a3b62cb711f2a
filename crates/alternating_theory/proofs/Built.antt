-- The automaton of a formula without clocks.
use Rattle.std.proofs.Common.{◌≡◌, sym, ap, ◌∙◌, subst, ℕ, ◌+◌, ◌-◌, ◌≤◌, ◌<◌, Bool as Truth, List, [], ◌∷◌, ◌++◌, length, arith, inl, inr}
use Rattle.std.specs.Prelude.{◌↔◌, IsTrue, None}
use Rattle.std.proofs.lemmas.Bool.{cases_lt}
use Rattle.std.proofs.lemmas.List.{length-append}
use Rattle.psl_tree.specs.Followed.{Past, followed}
use Rattle.psl_tree.specs.Satisfaction.{Sat}
use Rattle.psl_tree.specs.Counts.{obligations_of}
use Rattle.psl_tree.specs.Trees.{Formula}
use Rattle.psl_tree.specs.declared.letter.Letter.{Letter}
use Rattle.alternating_theory.specs.Construction.{Part, part_of, HasNoClock}
use Rattle.alternating_theory.specs.Obligations.{Obligation, obligation_at, numbered, value_of, value_on, IsReached}
use Rattle.alternating_theory.specs.Positive.{OwesWithin}
use Rattle.alternating_theory.specs.Built.{finished, unmerged, built}
use Rattle.alternating_theory.specs.Laws.{NamesOf, KeepsValues}
use Rattle.alternating_theory.specs.Merged.{class_in, classes_upto}
use Rattle.alternating_theory.proofs.Merges.{merging_keeps}
use Rattle.alternating_theory.proofs.Counts.{part-count}
use Rattle.alternating_theory.proofs.Means.{part-means}
use Rattle.alternating_theory.proofs.Parts.{start_value, end_of, IsRight, part-closed}
use Rattle.alternating_theory.proofs.Trims.{trimmed-value, trimmed-last, trimmed-fewer, trimmed-below, trimmed-reached}
use Rattle.alternating_theory.proofs.Values.{at-left, at-right, right-at, agree}

module _ (part : Part) (r : IsRight 0 part) where
  abbrev all : List Obligation
  all = part.rest ++ part.start ∷ []

  pub all-last : length (part.rest ++ part.start ∷ []) ≡ length part.rest + 1
  all-last = length-append part.rest (part.start ∷ [])

  at-start : obligation_at (part.rest ++ part.start ∷ []) (length part.rest) ≡ part.start
  at-start = at-right part.rest (part.start ∷ []) 0 (length part.rest) (omega arith)

  no-offset : (q : ℕ) → q ≡ q - 0
  no-offset q = omega arith

  at-rest : (q : ℕ) → 0 ≤ q → q < end_of 0 part → obligation_at (part.rest ++ part.start ∷ []) q ≡ numbered 0 part.rest q
  at-rest q l h = at-left part.rest (part.start ∷ []) q (omega arith) ∙ ap (λ n. obligation_at part.rest n) (no-offset q)

  no-more : end_of 0 part ≡ length part.rest
  no-more = omega arith

  pub all-below : (q : ℕ) → q < length (part.rest ++ part.start ∷ []) → OwesWithin 0 (length part.rest) (obligation_at (part.rest ++ part.start ∷ []) q).delta
  all-below q h = elim (cases_lt q (length part.rest)) [
    | inl l ↦ subst (λ (o : Obligation). OwesWithin 0 (length part.rest) o.delta) (sym (at-left part.rest (part.start ∷ []) q l))
        (subst (λ (n : ℕ). OwesWithin 0 n (obligation_at part.rest q).delta) no-more (right-at (numbered 0 part.rest) 0 (end_of 0 part) part.rest r.rest q l).within)
    | inr l ↦ (let e : length part.rest ≡ q = omega (arith, all-last) in
        subst (λ (k : ℕ). OwesWithin 0 (length part.rest) (obligation_at (part.rest ++ part.start ∷ []) k).delta) e
        (subst (λ (o : Obligation). OwesWithin 0 (length part.rest) o.delta) (sym at-start)
        (subst (λ (n : ℕ). OwesWithin 0 n part.start.delta) no-more r.start.within)))
  ]

  pub finished-value : (p : Past) (xs : List Letter) → value_on (finished part) p xs ≡ start_value 0 part p xs
  finished-value p xs =
      trimmed-value (part.rest ++ part.start ∷ []) (length part.rest) all-last all-below p xs
      ∙ ap (λ (o : Obligation). value_of (obligation_at (part.rest ++ part.start ∷ [])) p o xs) at-start
      ∙ agree 0 (end_of 0 part) (numbered 0 part.rest) (obligation_at (part.rest ++ part.start ∷ [])) (part-closed 0 part r) at-rest p part.start r.start.within xs

right-of : (f : Formula) → HasNoClock f → IsRight 0 (part_of 0 f)
right-of f h = (part-means 0 f h).right

unmerged-means : (f : Formula) → HasNoClock f → (p : Past) (xs : List Letter) → IsTrue (value_on (unmerged f) p xs) ↔ Sat (followed xs p) f None
unmerged-means f h p xs = subst (λ (t : Truth). IsTrue t ↔ Sat (followed xs p) f None) (sym (finished-value (part_of 0 f) (right-of f h) p xs)) ((part-means 0 f h).means p xs)

unmerged-count : (f : Formula) → HasNoClock f → length (unmerged f).obligations ≤ obligations_of f
unmerged-count f h =
    let part = part_of 0 f in
    let e = trimmed-fewer (part.rest ++ part.start ∷ []) (length part.rest) (all-last part (right-of f h)) (all-below part (right-of f h)) in
    omega (arith, e, all-last part (right-of f h), part-count 0 f h)

unmerged-last : (f : Formula) → HasNoClock f → length (unmerged f).obligations ≡ (unmerged f).start + 1
unmerged-last f h =
    let part = part_of 0 f in trimmed-last (part.rest ++ part.start ∷ []) (length part.rest) (all-last part (right-of f h)) (all-below part (right-of f h))

unmerged-below : (f : Formula) → HasNoClock f → (q : ℕ) → q < length (unmerged f).obligations → OwesWithin 0 (unmerged f).start (obligation_at (unmerged f).obligations q).delta
unmerged-below f h =
    let part = part_of 0 f in trimmed-below (part.rest ++ part.start ∷ []) (length part.rest) (all-last part (right-of f h)) (all-below part (right-of f h))

unmerged-reached : (f : Formula) → HasNoClock f → (q : ℕ) → q < length (unmerged f).obligations → IsReached (unmerged f) q
unmerged-reached f h =
    let part = part_of 0 f in trimmed-reached (part.rest ++ part.start ∷ []) (length part.rest) (all-last part (right-of f h)) (all-below part (right-of f h))

pub unmerged-names : (f : Formula) → HasNoClock f → NamesOf (unmerged f)
unmerged-names f h = record { start_last = unmerged-last f h; owed_below = unmerged-below f h; all_reached = unmerged-reached f h }

pub built-keeps : (f : Formula) → HasNoClock f → KeepsValues (unmerged f) (built f)
built-keeps f h = merging_keeps (unmerged f) (unmerged-names f h) (class_in (classes_upto (unmerged f).obligations (unmerged f).start))

pub built-means : (f : Formula) → HasNoClock f → (p : Past) (xs : List Letter) → IsTrue (value_on (built f) p xs) ↔ Sat (followed xs p) f None
built-means f h p xs = subst (λ (t : Truth). IsTrue t ↔ Sat (followed xs p) f None) (sym ((built-keeps f h).values p xs)) (unmerged-means f h p xs)

pub built-count : (f : Formula) → HasNoClock f → length (built f).obligations ≤ obligations_of f
built-count f h = omega (arith, (built-keeps f h).fewer, unmerged-count f h)

pub built-names : (f : Formula) → HasNoClock f → NamesOf (built f)
built-names f h = (built-keeps f h).names
