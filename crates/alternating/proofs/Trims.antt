-- The loops that give new numbers and keep what is marked, and the trimmed automaton.
use Rattle.std.proofs.Common.{◌≡◌, inl, inr, ◌∙◌, ℕ, zero, suc, ◌+◌, ◌≤◌, ◌<◌, Bool as Truth, true, false, if◌then◌else◌, List, [], ◌∷◌, ◌++◌, map, length, get_or, take, refl, ap, sym, subst, append_assoc, append-nil, arith, slice_index}
use Rattle.std.specs.List.{AllByRecursion}
use Rattle.std.proofs.lemmas.Bool.{cases_lt}
use Rattle.std.proofs.lemmas.List.Elements.{All-from_recursion}
use Rattle.std.proofs.lemmas.List.{map_push, map_more, length-map, length-take-le, get_or_default}
use Rattle.psl_tree.specs.declared.counts.TheConstants.{MOST_OBLIGATIONS}
use Rattle.sere_nfa.specs.Marking.{is_marked}
use Rattle.alternating_theory.specs.Obligations.{Obligation, Automaton, obligation_at}
use Rattle.alternating_theory.specs.Positive.{Positive, Const, Holds, Owed, And, Or, OwesWithin, renumbered}
use Rattle.alternating_theory.specs.Trimmed.{is_reached, count_below, kept, renumbered_obligation, trimmed}
use Rattle.alternating_theory.proofs.Settled.{count-at_most}
use Rattle.alternating_theory.proofs.Kept.{count-last}
use Rattle.alternating_theory.proofs.MetLaws.{within-wider}
use Rattle.alternating_theory.proofs.Trims.{trimmed-last, trimmed-fewer, trimmed-below}
use Rattle.alternating.proofs.Search.{within-at}
use Rattle.alternating.specs.Search.{MarksReached, Names}
use Rattle.alternating.specs.Views.{positive_of, obligation_of, obligations_of_code, ObligationsWithin}
use Rattle.alternating.specs.declared.obligation.Obligation as code_obligation

-- one number more
pub count-next : (n : ℕ) (keep : ℕ → Truth) → count_below (n + 1) keep ≡ count_below n keep + (if keep n then 1 else 0)
count-next n keep = let e : n + 1 ≡ suc n = omega arith in rw e (count-last n keep)

pub count-few : (n : ℕ) (keep : ℕ → Truth) → count_below n keep ≤ n
count-few n keep = count-at_most n keep

-- one obligation more at the end
pub kept-push : (keep : ℕ → Truth) (os : List Obligation) (o : Obligation) → kept keep (os ++ o ∷ []) ≡ kept keep os ++ (if keep (length os) then o ∷ [] else [])
kept-push keep [] o = append-nil (if keep zero then o ∷ [] else [])
kept-push keep (p ∷ os) o =
    ap (λ (l : List Obligation). (if keep zero then p ∷ [] else []) ++ l) (kept-push (λ q. keep (suc q)) os o)
    ∙ sym (append_assoc (if keep zero then p ∷ [] else []) (kept (λ q. keep (suc q)) os) (if keep (suc (length os)) then o ∷ [] else []))

pub kept-more : (keep : ℕ → Truth) (os : List code_obligation.Obligation) (i : ℕ) (d : code_obligation.Obligation) → i < length os
    → kept keep (obligations_of_code (take (i + 1) os)) ≡ kept keep (obligations_of_code (take i os)) ++ (if keep i then obligation_of (get_or os i d) ∷ [] else [])
kept-more keep os i d h =
    let place : length (obligations_of_code (take i os)) ≡ i = omega (arith, length-map (take i os) obligation_of, length-take-le {A = code_obligation.Obligation}) in
    ap (λ (l : List Obligation). kept keep l) (map_more obligation_of os i d h)
    ∙ kept-push keep (obligations_of_code (take i os)) (obligation_of (get_or os i d))
    ∙ ap (λ n. kept keep (obligations_of_code (take i os)) ++ (if keep n then obligation_of (get_or os i d) ∷ [] else [])) place

-- an obligation is kept, if it is marked
pub kept-step : (f : Obligation → Obligation) (keep : ℕ → Truth) (os : List code_obligation.Obligation) (i : ℕ) (o : code_obligation.Obligation) → i < length os → o ≡ get_or os i o
    → (b : Truth) → keep i ≡ b → (old new : List code_obligation.Obligation)
    → obligations_of_code old ≡ map f (kept keep (obligations_of_code (take i os)))
    → obligations_of_code new ≡ obligations_of_code old ++ (if b then f (obligation_of o) ∷ [] else [])
    → obligations_of_code new ≡ map f (kept keep (obligations_of_code (take (i + 1) os)))
kept-step f keep os i o h is true t old new e g =
    g
    ∙ ap (λ (l : List Obligation). l ++ f (obligation_of o) ∷ []) e
    ∙ ap (λ (p : code_obligation.Obligation). map f (kept keep (obligations_of_code (take i os))) ++ f (obligation_of p) ∷ []) is
    ∙ sym (ap (λ (l : List Obligation). map f l) (kept-more keep os i o h ∙ ap (λ (b : Truth). kept keep (obligations_of_code (take i os)) ++ (if b then obligation_of (get_or os i o) ∷ [] else [])) t)
    ∙ map_push f (kept keep (obligations_of_code (take i os))) (obligation_of (get_or os i o)))
kept-step f keep os i o h is false t old new e g =
    g
    ∙ ap (λ (l : List Obligation). l ++ []) e
    ∙ append-nil (map f (kept keep (obligations_of_code (take i os))))
    ∙ sym (ap (λ (l : List Obligation). map f l) (kept-more keep os i o h
    ∙ ap (λ (b : Truth). kept keep (obligations_of_code (take i os)) ++ (if b then obligation_of (get_or os i o) ∷ [] else [])) t
    ∙ append-nil (kept keep (obligations_of_code (take i os)))))

-- tests that agree below a bound

pub count-same : (n : ℕ) (f g : ℕ → Truth) → ((q : ℕ) → q < n → f q ≡ g q) → count_below n f ≡ count_below n g
count-same zero f g s = refl
count-same (suc n) f g s =
    let a = s zero (omega arith) in
    let b = count-same n (λ q. f (suc q)) (λ q. g (suc q)) (λ q h. s (suc q) (omega arith)) in
    ap (λ (t : Truth). (if t then 1 else 0) + count_below n (λ q. f (suc q))) a ∙ ap (λ k. (if g zero then 1 else 0) + k) b

pub kept-same : (f g : ℕ → Truth) (os : List Obligation) → ((q : ℕ) → q < length os → f q ≡ g q) → kept f os ≡ kept g os
kept-same f g [] s = refl
kept-same f g (o ∷ os) s =
    let a = s zero (omega arith) in
    let b = kept-same (λ q. f (suc q)) (λ q. g (suc q)) os (λ q h. s (suc q) (omega arith)) in
    ap (λ (t : Truth). (if t then o ∷ [] else []) ++ kept (λ q. f (suc q)) os) a ∙ ap (λ (l : List Obligation). (if g zero then o ∷ [] else []) ++ l) b

renumbered-same : (high : ℕ) (f g : ℕ → ℕ) → ((q : ℕ) → q < high → f q ≡ g q) → (p : Positive) → OwesWithin 0 high p → renumbered f p ≡ renumbered g p
renumbered-same high f g s (Const v) w = refl
renumbered-same high f g s (Holds b) w = refl
renumbered-same high f g s (Owed q) w = ap (λ k. Owed k) (s q w.1)
renumbered-same high f g s (And p r) w = let a = renumbered-same high f g s p w.0 in let b = renumbered-same high f g s r w.1 in cc
renumbered-same high f g s (Or p r) w = let a = renumbered-same high f g s p w.0 in let b = renumbered-same high f g s r w.1 in cc

pub renamed-same : (high : ℕ) (f g : ℕ → ℕ) → ((q : ℕ) → q < high → f q ≡ g q) → (keep : ℕ → Truth) (os : List Obligation)
    → ((q : ℕ) → q < length os → OwesWithin 0 high (obligation_at os q).delta)
    → map (λ o. renumbered_obligation f o) (kept keep os) ≡ map (λ o. renumbered_obligation g o) (kept keep os)
renamed-same high f g s keep [] w = refl
renamed-same high f g s keep (o ∷ os) w = at (keep zero) (renamed-same high f g s (λ q. keep (suc q)) os (λ q h. w (suc q) (omega arith)))
  where
    at : (b : Truth) → map (λ o. renumbered_obligation f o) (kept (λ q. keep (suc q)) os) ≡ map (λ o. renumbered_obligation g o) (kept (λ q. keep (suc q)) os)
        → map (λ o. renumbered_obligation f o) ((if b then o ∷ [] else []) ++ kept (λ q. keep (suc q)) os) ≡ map (λ o. renumbered_obligation g o) ((if b then o ∷ [] else []) ++ kept (λ q. keep (suc q)) os)
    at true e = let d = renumbered-same high f g s o.delta (w zero (omega arith)) in cc
    at false e = e

-- the marked obligations with their new numbers are the trimmed automaton
pub trimmed-code : (os : List Obligation) (start : ℕ) (marks : List Truth) (names : List ℕ) → start < length os
    → ((q : ℕ) → q < length os → OwesWithin 0 (length os) (obligation_at os q).delta)
    → MarksReached os start marks → Names marks names
    → record { start = slice_index names start; obligations = map (λ o. renumbered_obligation (λ number. slice_index names number) o) (kept (is_marked marks) os) } ≡ trimmed os start
trimmed-code os start marks names begins w m n =
    let number : (q : ℕ) → q < length os → slice_index names q ≡ count_below q (is_reached os start) =
    λ q h. n.exact q (omega (arith, m.same_length)) ∙ count-same q (is_marked marks) (is_reached os start) (λ r k. m.exact r (omega arith)) in
    let first : slice_index names start ≡ count_below start (is_reached os start) = number start begins in
    let rest : map (λ o. renumbered_obligation (λ number. slice_index names number) o) (kept (is_marked marks) os)
    ≡ map (λ o. renumbered_obligation (λ number. count_below number (is_reached os start)) o) (kept (is_reached os start) os) =
    renamed-same (length os) (λ number. slice_index names number) (λ number. count_below number (is_reached os start)) number (is_marked marks) os w
    ∙ ap (λ (l : List Obligation). map (λ o. renumbered_obligation (λ number. count_below number (is_reached os start)) o) l) (kept-same (is_marked marks) (is_reached os start) os m.exact) in
    cc

-- a count was pushed

pushed-left : (xs : List ℕ) (x k : ℕ) → k < length xs → get_or (xs ++ x ∷ []) k 0 ≡ get_or xs k 0
pushed-left [] x k h = absurd (omega arith)
pushed-left (y ∷ xs) x zero h = refl
pushed-left (y ∷ xs) x (suc k) h = pushed-left xs x k (omega arith)

pushed-last : (xs : List ℕ) (x : ℕ) → get_or (xs ++ x ∷ []) (length xs) 0 ≡ x
pushed-last [] x = refl
pushed-last (y ∷ xs) x = pushed-last xs x

pub name-more : (names : List ℕ) (count i : ℕ) (keep : ℕ → Truth) (new : List ℕ) → length names ≡ i
    → ((k : ℕ) → k < i → slice_index names k ≡ count_below k keep) → count ≡ count_below i keep → new ≡ names ++ count ∷ []
    → (k : ℕ) → k < i + 1 → slice_index new k ≡ count_below k keep
name-more names count i keep new e each c p k h =
    ap (λ (l : List ℕ). get_or l k 0) p ∙ elim (cases_lt k i) as (λ _. get_or (names ++ count ∷ []) k 0 ≡ count_below k keep) [
      | inl l ↦ pushed-left names count k (omega arith) ∙ each k l
      | inr l ↦ (let same : length names ≡ k = omega arith in
          let last : i ≡ k = omega arith in
          subst (λ (j : ℕ). get_or (names ++ count ∷ []) j 0 ≡ count_below k keep) same
          (pushed-last names count ∙ c ∙ ap (λ j. count_below j keep) last))
    ]

pub count-more : (i count more : ℕ) (keep : ℕ → Truth) → count ≡ count_below i keep → more ≡ count + (if keep i then 1 else 0) → more ≡ count_below (i + 1) keep
count-more i count more keep e f = f ∙ ap (λ k. k + (if keep i then 1 else 0)) e ∙ sym (count-next i keep)

-- the program's obligations

at-recursion : (low high : ℕ) (os : List code_obligation.Obligation) → ((q : ℕ) → q < length (obligations_of_code os) → OwesWithin low high (obligation_at (obligations_of_code os) q).delta)
    → AllByRecursion (λ (o : code_obligation.Obligation). OwesWithin low high (positive_of o.delta)) os
at-recursion low high [] w = tt
at-recursion low high (o ∷ os) w = (w 0 (omega arith), at-recursion low high os (λ q h. w (suc q) (omega arith)))

pub at-within : (low high : ℕ) (os : List code_obligation.Obligation) → ((q : ℕ) → q < length (obligations_of_code os) → OwesWithin low high (obligation_at (obligations_of_code os) q).delta)
    → ObligationsWithin low high os
at-within low high os w = All-from_recursion (λ (o : code_obligation.Obligation). OwesWithin low high (positive_of o.delta)) os (at-recursion low high os w)

module _ (os : List code_obligation.Obligation) (start : ℕ) (within : ObligationsWithin 0 start os) (last : length os ≡ start + 1) where
  as-long : length (obligations_of_code os) ≡ length os
  as-long = length-map os obligation_of

  below : (q : ℕ) → q < length (obligations_of_code os) → OwesWithin 0 start (obligation_at (obligations_of_code os) q).delta
  below q h = within-at 0 start os within q h

  -- the kept obligations are the trimmed automaton
  pub trimmed-is : (marks : List Truth) (names : List ℕ) (first : ℕ) (found : List code_obligation.Obligation) → MarksReached (obligations_of_code os) start marks → Names marks names
      → first ≡ slice_index names start
      → obligations_of_code found ≡ map (λ o. renumbered_obligation (λ number. slice_index names number) o) (kept (is_marked marks) (obligations_of_code os))
      → record { start = first; obligations = obligations_of_code found } ≡ trimmed (obligations_of_code os) start
  trimmed-is marks names first found m n e f =
      let made : Automaton = record { start = slice_index names start; obligations = map (λ o. renumbered_obligation (λ number. slice_index names number) o) (kept (is_marked marks) (obligations_of_code os)) } in
      let same : record { start = first; obligations = obligations_of_code found } ≡ made = cc in
      same ∙ trimmed-code (obligations_of_code os) start marks names (omega (arith, as-long))
      (λ q h. within-wider 0 start 0 (length (obligations_of_code os)) (omega arith) (omega (arith, as-long)) (obligation_at (obligations_of_code os) q).delta (below q h)) m n

  -- the same, as the program made it
  pub trimmed-made : (marks marks' marks'' : List Truth) (names names' : List ℕ) (first : ℕ) (found : List code_obligation.Obligation)
      → MarksReached (obligations_of_code os) start marks → marks' ≡ marks → marks'' ≡ marks → Names marks' names → names' ≡ names → first ≡ get_or names start first
      → obligations_of_code found ≡ map (λ o. renumbered_obligation (λ number. slice_index names' number) o) (kept (is_marked marks'') (obligations_of_code os))
      → record { start = first; obligations = obligations_of_code found } ≡ trimmed (obligations_of_code os) start
  trimmed-made marks marks' marks'' names names' first found m e e' n d f g =
      let own : Names marks names = subst (λ (l : List Truth). Names l names) e n in
      let within-names : start < length names = omega (arith, own.same_length, m.same_length, as-long) in
      trimmed-is marks names first found m own (f ∙ get_or_default names start first 0 within-names)
      (g ∙ ap (λ (l : List ℕ). map (λ o. renumbered_obligation (λ number. slice_index l number) o) (kept (is_marked marks'') (obligations_of_code os))) d
      ∙ ap (λ (l : List Truth). map (λ o. renumbered_obligation (λ number. slice_index names number) o) (kept (is_marked l) (obligations_of_code os))) e')

  -- so it is whole
  pub trimmed-whole : (first : ℕ) (found : List code_obligation.Obligation) → length os ≤ MOST_OBLIGATIONS
      → record { start = first; obligations = obligations_of_code found } ≡ trimmed (obligations_of_code os) start
      → (first < length found) × ObligationsWithin 0 (length found) found × (length found ≤ MOST_OBLIGATIONS)
  trimmed-whole first found room e =
      let end : length (obligations_of_code os) ≡ start + 1 = omega (arith, as-long) in
      let long : length (obligations_of_code found) ≡ length found = length-map found obligation_of in
      let count : length (obligations_of_code found) ≡ first + 1 =
      subst (λ (a : Automaton). length a.obligations ≡ a.start + 1) (sym e) (trimmed-last (obligations_of_code os) start end below) in
      let few : length (obligations_of_code found) ≤ length (obligations_of_code os) =
      subst (λ (a : Automaton). length a.obligations ≤ length (obligations_of_code os)) (sym e) (trimmed-fewer (obligations_of_code os) start end below) in
      let each : (q : ℕ) → q < length (obligations_of_code found) → OwesWithin 0 first (obligation_at (obligations_of_code found) q).delta =
      subst (λ (a : Automaton). (q : ℕ) → q < length a.obligations → OwesWithin 0 a.start (obligation_at a.obligations q).delta) (sym e) (trimmed-below (obligations_of_code os) start end below) in (
        omega (arith, count, long),
        at-within 0 (length found) found
            (λ q h. within-wider 0 first 0 (length found) (omega arith) (omega (arith, count, long)) (obligation_at (obligations_of_code found) q).delta (each q h)),
        omega (arith, few, long, as-long, room),
      )
