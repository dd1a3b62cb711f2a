-- The loops that find classes, and the merged automaton.
use Rattle.std.proofs.Common.{◌≡◌, inl, inr, refl, sym, ap, ◌∙◌, subst, ℕ, zero, suc, ◌+◌, ◌-◌, ◌≤◌, ◌<◌, Bool as Truth, true, false, if◌then◌else◌, List, [], ◌∷◌, ◌++◌, map, length, get_or, slice_index, arith}
use Rattle.std.specs.Prelude.{IsTrue, ◌&&◌, ◌==◌}
use Rattle.std.proofs.lemmas.Bool.{both_ways, and_parts, cases_lt, eq-eqb}
use Rattle.std.proofs.lemmas.List.{length-map, get_or_default}
use Rattle.psl_tree.specs.declared.counts.TheConstants.{MOST_OBLIGATIONS}
use Rattle.sere_nfa.specs.Marking.{is_marked}
use Rattle.alternating_theory.specs.Laws.{NamesOf}
use Rattle.alternating_theory.specs.Merged.{class_in, first_from, supposed, is_like, is_first, classes_upto, joined, merged, same_positive, same_obligation}
use Rattle.alternating_theory.specs.Obligations.{Obligation, Automaton, obligation_at}
use Rattle.alternating_theory.specs.Positive.{Positive, Const, Holds, Owed, And, Or, renumbered}
use Rattle.alternating_theory.specs.Trimmed.{count_below, kept, renumbered_obligation}
use Rattle.alternating_theory.proofs.Classes.{classes-long, class-left, class-last, class-past, pass_fits, low-class}
use Rattle.alternating_theory.proofs.MetLaws.{within-wider}
use Rattle.alternating_theory.proofs.Merges.{merging_keeps}
use Rattle.alternating_theory.proofs.Same.{obligation-alike}
use Rattle.alternating.proofs.Shown.{shown-obligation}
use Rattle.alternating.proofs.Trims.{count-same, kept-same, renamed-same, at-within}
use Rattle.alternating.specs.Classes.{Firsts, ClassNames}
use Rattle.alternating.specs.Search.{Names}
use Rattle.alternating.specs.Sizes.{size, delta_sizes}
use Rattle.alternating.specs.Views.{obligation_of, obligations_of_code, ObligationsWithin}
use Rattle.alternating.specs.declared.obligation.Obligation as code_obligation

-- the program's obligations of two numbers
pub like-shown : (os : List code_obligation.Obligation) (class : ℕ → ℕ) (i j : ℕ) (first second : code_obligation.Obligation) → i < length os → j < length os
    → first ≡ get_or os i first → second ≡ get_or os j second → (t : Truth)
    → t ≡ same_obligation (renumbered_obligation class (obligation_of first)) (renumbered_obligation class (obligation_of second))
    → t ≡ same_obligation (renumbered_obligation class (obligation_at (obligations_of_code os) i)) (renumbered_obligation class (obligation_at (obligations_of_code os) j))
like-shown os class i j first second l m e f t g =
    let a : obligation_of first ≡ obligation_at (obligations_of_code os) i = ap (λ (o : code_obligation.Obligation). obligation_of o) e ∙ shown-obligation os i first l in
    let b : obligation_of second ≡ obligation_at (obligations_of_code os) j = ap (λ (o : code_obligation.Obligation). obligation_of o) f ∙ shown-obligation os j second m in
    g
    ∙ ap (λ (o : Obligation). same_obligation (renumbered_obligation class o) (renumbered_obligation class (obligation_of second))) a
    ∙ ap (λ (o : Obligation). same_obligation (renumbered_obligation class (obligation_at (obligations_of_code os) i)) (renumbered_obligation class o)) b

pub like-true : (os : List Obligation) (class : ℕ → ℕ) (i j : ℕ) (t : Truth) → class i ≡ i
    → t ≡ same_obligation (renumbered_obligation (supposed class j i) (obligation_at os i)) (renumbered_obligation (supposed class j i) (obligation_at os j)) → t ≡ is_like os class i j
like-true os class i j t e g =
    g ∙ sym (ap (λ (b : Truth). b && same_obligation (renumbered_obligation (supposed class j i) (obligation_at os i)) (renumbered_obligation (supposed class j i) (obligation_at os j))) (eq-eqb (class i) i e))

-- obligations that ask the same have deltas of one size

size-renumbered : (new : ℕ → ℕ) (p : Positive) → size (renumbered new p) ≡ size p
size-renumbered new (Const v) = refl
size-renumbered new (Holds b) = refl
size-renumbered new (Owed n) = refl
size-renumbered new (And p r) = let a = size-renumbered new p in let b = size-renumbered new r in cc
size-renumbered new (Or p r) = let a = size-renumbered new p in let b = size-renumbered new r in cc

size-same : (p r : Positive) → IsTrue (same_positive p r) → size p ≡ size r
size-same (Const v) (Const w) h = refl
size-same (Holds b) (Holds d) h = refl
size-same (Owed m) (Owed n) h = refl
size-same (And p q) (And r s) h =
    let parts = and_parts (same_positive q s) (same_positive p r) h in let a = size-same p r parts.1 in let b = size-same q s parts.0 in cc
size-same (Or p q) (Or r s) h =
    let parts = and_parts (same_positive q s) (same_positive p r) h in let a = size-same p r parts.1 in let b = size-same q s parts.0 in cc
size-same _ _ h = absurd (both_ways false refl h)

size-at : (os : List Obligation) (i : ℕ) → i < length os → get_or (delta_sizes os) i 0 ≡ size (obligation_at os i).delta
size-at [] i l = absurd (omega arith)
size-at (o ∷ os) zero l = refl
size-at (o ∷ os) (suc i) l = size-at os i (omega arith)

like-sizes : (os : List Obligation) (class : ℕ → ℕ) (i j : ℕ) → IsTrue (is_like os class i j) → size (obligation_at os i).delta ≡ size (obligation_at os j).delta
like-sizes os class i j h =
    let new = supposed class j i in
    let same = (and_parts (class i == i) (same_obligation (renumbered_obligation new (obligation_at os i)) (renumbered_obligation new (obligation_at os j))) h).1 in
    let alike = obligation-alike (renumbered_obligation new (obligation_at os i)) (renumbered_obligation new (obligation_at os j)) same in
    sym (size-renumbered new (obligation_at os i).delta)
    ∙ size-same (renumbered new (obligation_at os i).delta) (renumbered new (obligation_at os j).delta) alike.delta
    ∙ size-renumbered new (obligation_at os j).delta

-- so those of other sizes do not
pub unlike : (os : List code_obligation.Obligation) (sizes : List ℕ) (class : ℕ → ℕ) (i j : ℕ) → sizes ≡ delta_sizes (obligations_of_code os) → i < length os → j < length os
    → (get_or sizes i 0 ≡ get_or sizes j 0 → ⊥) → false ≡ is_like (obligations_of_code os) class i j
unlike os sizes class i j e l m other = at (is_like (obligations_of_code os) class i j) refl
  where
    many : length (obligations_of_code os) ≡ length os
    many = length-map os obligation_of

    size-is : (k : ℕ) → k < length os → get_or sizes k 0 ≡ size (obligation_at (obligations_of_code os) k).delta
    size-is k h = ap (λ (s : List ℕ). get_or s k 0) e ∙ size-at (obligations_of_code os) k (omega (arith, h, many))

    at : (t : Truth) → is_like (obligations_of_code os) class i j ≡ t → false ≡ t
    at false h = refl
    at true h = absurd (other (size-is i l ∙ like-sizes (obligations_of_code os) class i j h ∙ sym (size-is j m)))

-- the first number that passes a test

pub first-begun : (k : ℕ) (test : ℕ → Truth) → first_from 0 k test ≡ first_from 0 (k - 0) test
first-begun k test = let e : k ≡ k - 0 = omega arith in ap (λ n. first_from 0 n test) e

first-one : (i d : ℕ) (test : ℕ → Truth) → test i ≡ true → first_from i (suc d) test ≡ i
first-one i d test e = ap (λ (b : Truth). if b then i else first_from (suc i) d test) e

first-next : (i d : ℕ) (test : ℕ → Truth) → test i ≡ false → first_from i (suc d) test ≡ first_from (suc i) d test
first-next i d test e = ap (λ (b : Truth). if b then i else first_from (suc i) d test) e

pub first-found : (i k : ℕ) (test : ℕ → Truth) → i < k → first_from 0 k test ≡ first_from i (k - i) test → test i ≡ true → i ≡ first_from 0 k test
first-found i k test l e f = let d : k - i ≡ suc (k - suc i) = omega arith in sym (e ∙ ap (λ n. first_from i n test) d ∙ first-one i (k - suc i) test f)

pub first-later : (i k : ℕ) (test : ℕ → Truth) → i < k → first_from 0 k test ≡ first_from i (k - i) test → test i ≡ false → first_from 0 k test ≡ first_from (i + 1) (k - (i + 1)) test
first-later i k test l e f =
    let d : k - i ≡ suc (k - suc i) = omega arith in
    let g : suc i ≡ i + 1 = omega arith in
    let h : k - suc i ≡ k - (i + 1) = omega arith in
    e ∙ ap (λ n. first_from i n test) d ∙ first-next i (k - suc i) test f ∙ ap (λ n. first_from n (k - suc i) test) g ∙ ap (λ n. first_from (i + 1) n test) h

pub first-none : (k : ℕ) (test : ℕ → Truth) → first_from 0 k test ≡ first_from k (k - k) test → k ≡ first_from 0 k test
first-none k test e = let d : k - k ≡ 0 = omega arith in sym (e ∙ ap (λ n. first_from k n test) d)

-- one class more
pub classes-more : (os : List Obligation) (k : ℕ) (xs xs' new : List ℕ) (c : ℕ) → xs ≡ classes_upto os k → xs' ≡ xs → c ≡ first_from 0 k (λ j. is_like os (class_in xs') j k) → new ≡ xs ++ c ∷ []
    → new ≡ classes_upto os (k + 1)
classes-more os k xs xs' new c e e' f g =
    let h : suc k ≡ k + 1 = omega arith in
    g ∙ ap (λ i. xs ++ i ∷ []) (f ∙ ap (λ (l : List ℕ). first_from 0 k (λ j. is_like os (class_in l) j k)) (e' ∙ e)) ∙ ap (λ (l : List ℕ). l ++ first_from 0 k (λ j. is_like os (class_in (classes_upto os k)) j k) ∷ []) e
    ∙ ap (λ n. classes_upto os n) h

-- marks and names, one by one

mark-left : (xs : List Truth) (y : Truth) (n : ℕ) → n < length xs → is_marked (xs ++ y ∷ []) n ≡ is_marked xs n
mark-left [] y n h = absurd (omega arith)
mark-left (x ∷ xs) y zero h = refl
mark-left (x ∷ xs) y (suc n) h = mark-left xs y n (omega arith)

mark-last : (xs : List Truth) (y : Truth) (n : ℕ) → n ≡ length xs → is_marked (xs ++ y ∷ []) n ≡ y
mark-last [] y zero e = refl
mark-last [] y (suc n) e = absurd (omega arith)
mark-last (x ∷ xs) y zero e = absurd (omega arith)
mark-last (x ∷ xs) y (suc n) e = mark-last xs y n (omega arith)

pub marks-more : (marks new : List Truth) (b : Truth) (i : ℕ) (P : ℕ → Truth) → length marks ≡ i → ((q : ℕ) → q < i → is_marked marks q ≡ P q) → b ≡ P i → new ≡ marks ++ b ∷ []
    → (q : ℕ) → q < i + 1 → is_marked new q ≡ P q
marks-more marks new b i P e f g h q l = ap (λ (l : List Truth). is_marked l q) h ∙ elim (cases_lt q i) [
  | inl m ↦ mark-left marks b q (omega arith) ∙ f q m
  | inr m ↦ (let k : i ≡ q = omega arith in mark-last marks b q (omega arith) ∙ g ∙ ap P k)
]

pub names-more : (names new : List ℕ) (c i : ℕ) (P : ℕ → ℕ) → length names ≡ i → ((q : ℕ) → q < i → slice_index names q ≡ P q) → c ≡ P i → new ≡ names ++ c ∷ []
    → (q : ℕ) → q < i + 1 → slice_index new q ≡ P q
names-more names new c i P e f g h q l = ap (λ (l : List ℕ). slice_index l q) h ∙ elim (cases_lt q i) [
  | inl m ↦ class-left names c q 0 (omega arith) ∙ f q m
  | inr m ↦ (let k : i ≡ q = omega arith in class-last names c q 0 (omega arith) ∙ g ∙ ap P k)
]

abbrev pub automaton_from : ℕ → List Obligation → Automaton
automaton_from start obligations = record { start = start; obligations = obligations }

-- the merged automaton, as the program makes it
module _ (os : List code_obligation.Obligation) (start : ℕ) (names-of : NamesOf (record { start = start; obligations = obligations_of_code os })) where
  abbrev whole : Automaton
  whole = record { start = start; obligations = obligations_of_code os }

  abbrev plain : List Obligation
  plain = obligations_of_code os

  many : length plain ≡ length os
  many = length-map os obligation_of

  pub start-last : length os ≡ start + 1
  start-last = omega (arith, many, names-of.start_last)

  abbrev class : ℕ → ℕ
  class = class_in (classes_upto plain start)

  pub classes-low : (classes : List ℕ) → classes ≡ classes_upto plain start → (q : ℕ) → q < length classes → slice_index classes q ≤ q
  classes-low classes e q l =
      let a = ap (λ (l : List ℕ). length l) e in
      let b = low-class plain start q (omega (arith, l, a, classes-long plain start)) in
      omega (arith, b, ap (λ (l : List ℕ). get_or l q 0) e, same)
    where
      same : get_or (classes_upto plain start) q 0 ≡ class q
      same = any (classes_upto plain start) q (let a = ap (λ (l : List ℕ). length l) e in omega (arith, l, a))
        where
          any : (xs : List ℕ) (n : ℕ) → n < length xs → get_or xs n 0 ≡ get_or xs n q
          any [] n h = absurd (omega arith)
          any (x ∷ xs) zero h = refl
          any (x ∷ xs) (suc n) h = any xs n (omega arith)

  pub merged-made : (classes classes' classes'' : List ℕ) (marks marks' marks'' : List Truth) (names names' : List ℕ) (new new' : List ℕ) (first : ℕ) (found : List code_obligation.Obligation)
      → classes ≡ classes_upto plain start → classes' ≡ classes → classes'' ≡ classes → Firsts classes' marks → marks' ≡ marks → marks'' ≡ marks → Names marks' names → names' ≡ names
      → ClassNames classes'' names' new → new' ≡ new → first ≡ get_or names start first
      → obligations_of_code found ≡ map (λ o. renumbered_obligation (λ number. slice_index new' number) o) (kept (is_marked marks'') plain)
      → record { start = first; obligations = obligations_of_code found } ≡ merged whole
  merged-made classes classes' classes'' marks marks' marks'' names names' new new' first found e e' e'' fi m m' na d cn d' f g =
      let long : length classes ≡ start = ap (λ (l : List ℕ). length l) e ∙ classes-long plain start in
      let firsts' : Firsts classes marks = subst (λ (l : List ℕ). Firsts l marks) e' fi in
      let own : Names marks names = subst (λ (l : List Truth). Names l names) m na in
      let renamed : ClassNames classes names new = subst (λ (l : List ℕ). ClassNames classes l new) d (subst (λ (l : List ℕ). ClassNames l names' new) e'' cn) in
      let marked : (q : ℕ) → q < start + 1 → is_marked marks q ≡ is_first class q =
      λ q l. firsts'.exact q (omega (arith, l, long)) ∙ ap (λ (l : List ℕ). is_first (class_in l) q) e in
      let low : (q : ℕ) → q < start + 1 → class q ≤ q = λ q l. lowest q l in
      let counted : (k : ℕ) → k < start + 1 → slice_index names k ≡ count_below k (is_first class) =
      λ k l. own.exact k (omega (arith, l, firsts'.same_length, long)) ∙ count-same k (is_marked marks) (is_first class) (λ q h. marked q (omega arith)) in
      let number : (q : ℕ) → q < start + 1 → slice_index new q ≡ count_below (class q) (is_first class) =
      λ q l. renamed.exact q (omega (arith, l, long)) ∙ ap (λ (l : List ℕ). slice_index names (class_in l q)) e ∙ counted (class q) (omega (arith, low q l, l)) in
      let rest : map (λ o. renumbered_obligation (λ number. slice_index new' number) o) (kept (is_marked marks'') plain)
      ≡ map (λ o. renumbered_obligation (λ number. count_below (class number) (is_first class)) o) (kept (is_first class) plain) =
      ap (λ (l : List ℕ). map (λ o. renumbered_obligation (λ number. slice_index l number) o) (kept (is_marked marks'') plain)) d'
      ∙ ap (λ (l : List Truth). map (λ o. renumbered_obligation (λ number. slice_index new number) o) (kept (is_marked l) plain)) m'
      ∙ renamed-same (start + 1) (λ number. slice_index new number) (λ number. count_below (class number) (is_first class)) number (is_marked marks) plain
      (λ q h. within-wider 0 start 0 (start + 1) (omega arith) (omega arith) (obligation_at plain q).delta (names-of.owed_below q h))
      ∙ ap (λ (l : List Obligation). map (λ o. renumbered_obligation (λ number. count_below (class number) (is_first class)) o) l)
      (kept-same (is_marked marks) (is_first class) plain (λ q h. marked q (omega (arith, h, names-of.start_last)))) in
      let begun : first ≡ count_below start (is_first class) =
      f ∙ get_or_default names start first 0 (omega (arith, own.same_length, firsts'.same_length, long)) ∙ counted start (omega arith) in
      let made : record { start = first; obligations = obligations_of_code found } ≡ joined whole class =
      pair first (count_below start (is_first class)) (obligations_of_code found) (map (λ o. renumbered_obligation (λ number. count_below (class number) (is_first class)) o) (kept (is_first class) plain)) begun (g ∙ rest) in
      made ∙ sym (ap (λ (b : Truth). if b then joined whole class else whole) (pass_fits whole names-of))
    where
      lowest : (q : ℕ) → q < start + 1 → class q ≤ q
      lowest q l = elim (cases_lt q start) [
        | inl k ↦ low-class plain start q k
        | inr k ↦ omega (arith, class-past (classes_upto plain start) q q (omega (arith, k, classes-long plain start)))
      ]

      pair : (i j : ℕ) (l m : List Obligation) → i ≡ j → l ≡ m → automaton_from i l ≡ automaton_from j m
      pair i j l m u v = ap (λ (n : ℕ). automaton_from n l) u ∙ ap (λ (k : List Obligation). automaton_from j k) v

  -- so it is whole
  pub merged-whole : (first : ℕ) (found : List code_obligation.Obligation) → length os ≤ MOST_OBLIGATIONS → record { start = first; obligations = obligations_of_code found } ≡ merged whole
      → (first < length found) × ObligationsWithin 0 (length found) found × (length found ≤ MOST_OBLIGATIONS)
  merged-whole first found room e =
      let keeps = merging_keeps whole names-of (class_in (classes_upto plain start)) in
      let long : length (obligations_of_code found) ≡ length found = length-map found obligation_of in
      let names : NamesOf (record { start = first; obligations = obligations_of_code found }) = subst (λ (a : Automaton). NamesOf a) (sym e) keeps.names in
      let few : length (obligations_of_code found) ≤ length plain = subst (λ (a : Automaton). length a.obligations ≤ length plain) (sym e) keeps.fewer in (
        omega (arith, names.start_last, long),
        at-within 0 (length found) found
            (λ q h. within-wider 0 first 0 (length found) (omega arith) (omega (arith, names.start_last, long)) (obligation_at (obligations_of_code found) q).delta (names.owed_below q h)),
        omega (arith, few, long, many, room),
      )

  pub start-within : ObligationsWithin 0 start os
  start-within = at-within 0 start os (λ q h. names-of.owed_below q h)
