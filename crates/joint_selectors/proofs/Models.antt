-- The models of the clauses that say that some clause of a list is missed.
use Rattle.std.proofs.Common.{◌≡◌, inl, inr, refl, sym, ap, ◌∙◌, ℕ, suc, ◌+◌, ◌-◌, ◌<◌, ◌≤◌, ℤ, Bool, true, false, not, cond, ◌&&◌, ◌||◌, leb, List, [], ◌∷◌, ◌++◌, map, length, get_or, arith}
use Rattle.std.specs.Bool.{IsTrue}
use Rattle.std.specs.List.{list_all}
use Rattle.std.proofs.lemmas.Bool.{and_from, and_parts, both_ways, cond-false, cond-true, le-leb, lt-leb, not_from_false, or_cases}
use Rattle.std.proofs.lemmas.List.Folds.{list_all-append}
use Rattle.clauses.specs.Literals.{clause_within, clauses_within, is_within}
use Rattle.clauses.specs.Models.{Assignment, IsModel, is_true, meets}
use Rattle.gates_theory.specs.Circuits.{AreSame}
use Rattle.gates_theory.specs.Distinct.{following}
use Rattle.gates_theory.specs.Unrolled.{moved}
use Rattle.gates_theory.proofs.Agreement.{same-fewer, same-meets, same-met, same-shifted}
use Rattle.gates_theory.proofs.Literals.{shifted, some_moved, true-moved, true-neg}
use Rattle.gates_theory.proofs.Parts.{meets_all}
use Rattle.joint_selectors.specs.Missed.{each_missed, missed, some_missed, MissesSome}

-- a literal of a clause, the others, and the selector
no_literal : (selector : Bool) → true ≡ (not selector || true)
no_literal true = refl
no_literal false = refl

one_literal : (selector literal rest : Bool)
    → ((not selector || (not literal || false)) && (not selector || not rest)) ≡ (not selector || not (literal || rest))
one_literal true true rest = refl
one_literal true false rest = refl
one_literal false literal rest = refl

off-missed : (met : Bool) → IsTrue (not true || not met) → met ≡ false
off-missed true h = sym h
off-missed false h = refl

selected : (met : Bool) → IsTrue (not (not met) || not met)
selected true = refl
selected false = refl

missed-rest : (met rest : Bool) → (not met || not rest) ≡ not (met && rest)
missed-rest true rest = refl
missed-rest false rest = refl

and_none : (met rest : Bool) → rest ≡ false → (met && rest) ≡ false
and_none true rest none = none
and_none false rest none = refl

-- whether a clause is missed
abbrev pub misses : ℕ → Assignment → List ℤ → Bool
misses base values clause = not (meets (shifted base values) clause)

-- the selectors behind so many variables tell which clauses are missed
abbrev pub Tells : ℕ → Assignment → ℕ → List (List ℤ) → Type 0
Tells base values before clauses =
    (m : ℕ) → m < length clauses → values (suc (before + m)) ≡ get_or (map (misses base values) clauses) m false

module _ (size base : ℕ) (values : Assignment) where
  -- the clauses of one selector
  missed-is : (before : ℕ) (clause : List ℤ) → IsTrue (clause_within size clause)
      → meets_all values (missed base before clause) ≡ (not (values (suc before)) || misses base values clause)
  missed-is before [] within = no_literal (values (suc before))
  missed-is before (literal ∷ literals) within =
      let parts = and_parts (is_within size literal) (clause_within size literals) within in
      rw (
        true-neg values (moved base literal) (some_moved size base literal parts.0),
        true-moved values base literal,
        missed-is before literals parts.1,
      ) (one_literal (values (suc before)) (is_true (shifted base values) literal) (meets (shifted base values) literals))

  -- where a selector is true, its clause is missed
  missed-says : (before : ℕ) (clause : List ℤ) → IsTrue (clause_within size clause) → IsTrue (meets_all values (missed base before clause))
      → values (suc before) ≡ true → meets (shifted base values) clause ≡ false
  missed-says before clause within met on =
      off-missed (meets (shifted base values) clause)
      (sym (ap (λ (s : Bool). not s || misses base values clause) on) ∙ sym (missed-is before clause within) ∙ met)

  -- and it may be true where that is so
  missed-from : (before : ℕ) (clause : List ℤ) → IsTrue (clause_within size clause) → values (suc before) ≡ misses base values clause
      → IsTrue (meets_all values (missed base before clause))
  missed-from before clause within is =
      missed-is before clause within ∙ ap (λ (s : Bool). not s || misses base values clause) is ∙ selected (meets (shifted base values) clause)

  -- where some selector is true, some clause is missed
  each-says : (before : ℕ) (clauses : List (List ℤ)) → IsTrue (clauses_within size clauses) → IsTrue (meets_all values (each_missed base before clauses))
      → IsTrue (meets values (following before (length clauses))) → list_all (meets (shifted base values)) clauses ≡ false
  each-says before [] within met some = absurd (both_ways false refl some)
  each-says before (clause ∷ clauses) within met some =
      let parts = and_parts (clause_within size clause) (clauses_within size clauses) within in
      let both = and_parts (meets_all values (missed base before clause)) (meets_all values (each_missed base (suc before) clauses))
      (sym (list_all-append (meets values) (missed base before clause) (each_missed base (suc before) clauses)) ∙ met) in
      elim (or_cases (values (suc before)) (meets values (following (suc before) (length clauses))) some) [
        | inl on ↦ ap (λ (b : Bool). b && list_all (meets (shifted base values)) clauses) (missed-says before clause parts.0 both.0 on)
        | inr later ↦ and_none (meets (shifted base values) clause) (list_all (meets (shifted base values)) clauses)
            (each-says (suc before) clauses parts.1 both.1 later)
      ]

  tells-first : (before : ℕ) (clause : List ℤ) (clauses : List (List ℤ)) → Tells base values before (clause ∷ clauses)
      → values (suc before) ≡ misses base values clause
  tells-first before clause clauses tells =
      let e : suc (before + 0) ≡ suc before = omega arith in ap values (sym e) ∙ tells 0 (omega arith)

  tells-rest : (before : ℕ) (clause : List ℤ) (clauses : List (List ℤ)) → Tells base values before (clause ∷ clauses)
      → Tells base values (suc before) clauses
  tells-rest before clause clauses tells m below =
      let e : suc (before + suc m) ≡ suc (suc before + m) = omega arith in ap values (sym e) ∙ tells (suc m) (omega arith)

  -- the clauses of selectors that tell
  each-from : (before : ℕ) (clauses : List (List ℤ)) → IsTrue (clauses_within size clauses) → Tells base values before clauses
      → IsTrue (meets_all values (each_missed base before clauses))
  each-from before [] within tells = refl
  each-from before (clause ∷ clauses) within tells =
      let parts = and_parts (clause_within size clause) (clauses_within size clauses) within in
      list_all-append (meets values) (missed base before clause) (each_missed base (suc before) clauses)
      ∙ and_from (meets_all values (missed base before clause)) (meets_all values (each_missed base (suc before) clauses))
      (missed-from before clause parts.0 (tells-first before clause clauses tells))
      (each-from (suc before) clauses parts.1 (tells-rest before clause clauses tells))

  following-from : (before : ℕ) (clauses : List (List ℤ)) → Tells base values before clauses
      → meets values (following before (length clauses)) ≡ not (list_all (meets (shifted base values)) clauses)
  following-from before [] tells = refl
  following-from before (clause ∷ clauses) tells =
      rw (tells-first before clause clauses tells, following-from (suc before) clauses (tells-rest before clause clauses tells))
      (missed-rest (meets (shifted base values) clause) (list_all (meets (shifted base values)) clauses))

  -- a model misses some clause
  pub some-says : (before : ℕ) (clauses : List (List ℤ)) → IsTrue (clauses_within size clauses) → IsModel values (some_missed base before clauses)
      → MissesSome base values clauses
  some-says before clauses within model =
      let both = and_parts (meets_all values (each_missed base before clauses)) (meets_all values (following before (length clauses) ∷ []))
      (sym (list_all-append (meets values) (each_missed base before clauses) (following before (length clauses) ∷ [])) ∙ model) in
      let last = and_parts (meets values (following before (length clauses))) (meets_all values []) both.1 in
      each-says before clauses within both.0 last.0

-- values of the selectors: which clauses are missed
abbrev filled : Assignment → ℕ → ℕ → List (List ℤ) → Assignment
filled values base before clauses k =
    cond (leb k before) (values k) (get_or (map (misses base values) clauses) (k - suc before) false)

filled-old : (values : Assignment) (base before : ℕ) (clauses : List (List ℤ)) → AreSame before (filled values base before clauses) values
filled-old values base before clauses k some fits =
    cond-true (leb k before) (values k) (get_or (map (misses base values) clauses) (k - suc before) false) (le-leb k before fits)

filled-new : (values : Assignment) (base before : ℕ) (clauses : List (List ℤ)) (m : ℕ)
    → filled values base before clauses (suc (before + m)) ≡ get_or (map (misses base values) clauses) m false
filled-new values base before clauses m =
    let k = suc (before + m) in
    let e : k - suc before ≡ m = omega arith in
    cond-false (leb k before) (values k) (get_or (map (misses base values) clauses) (k - suc before) false) (lt-leb k before (omega arith))
    ∙ ap (λ n. get_or (map (misses base values) clauses) n false) e

misses-same : (size base : ℕ) (v w : Assignment) (clauses : List (List ℤ)) → AreSame (base + size) v w → IsTrue (clauses_within size clauses)
    → map (misses base v) clauses ≡ map (misses base w) clauses
misses-same size base v w [] agree within = refl
misses-same size base v w (clause ∷ clauses) agree within =
    let parts = and_parts (clause_within size clause) (clauses_within size clauses) within in
    rw (
      same-meets size (shifted base v) (shifted base w) (same-shifted base size v w agree) clause parts.0,
      misses-same size base v w clauses agree parts.1,
    )

-- where some clause is missed, values of further variables say so
pub some-fills : (size base before : ℕ) (clauses : List (List ℤ)) (values : Assignment) → IsTrue (clauses_within size clauses) → base + size ≤ before
    → MissesSome base values clauses → (further : Assignment) × IsModel further (some_missed base before clauses) × AreSame before further values
some-fills size base before clauses values within fits missing =
    let further = filled values base before clauses in
    let old : AreSame before further values = filled-old values base before clauses in
    let few : AreSame (base + size) further values = same-fewer (base + size) before further values fits old in
    let equal : map (misses base further) clauses ≡ map (misses base values) clauses = misses-same size base further values clauses few within in
    let tells : Tells base further before clauses =
    λ m below. filled-new values base before clauses m ∙ ap (λ ds. get_or ds m false) (sym equal) in
    let none : list_all (meets (shifted base further)) clauses ≡ false =
    same-met size (shifted base further) (shifted base values) (same-shifted base size further values few) clauses within ∙ missing in (
      further,
      list_all-append (meets further) (each_missed base before clauses) (following before (length clauses) ∷ [])
          ∙ and_from (meets_all further (each_missed base before clauses)) (meets_all further (following before (length clauses) ∷ []))
          (each-from size base further before clauses within tells)
          (and_from (meets further (following before (length clauses))) (meets_all further [])
          (following-from size base further before clauses tells ∙ not_from_false (list_all (meets (shifted base further)) clauses) none) refl),
      old,
    )

-- over a formula

pub missed-model : (size base before : ℕ) (formula clauses : List (List ℤ)) (values : Assignment) → IsTrue (clauses_within size clauses)
    → IsModel values (formula ++ some_missed base before clauses) → IsModel values formula × MissesSome base values clauses
missed-model size base before formula clauses values within model =
    let both = and_parts (meets_all values formula) (meets_all values (some_missed base before clauses))
    (sym (list_all-append (meets values) formula (some_missed base before clauses)) ∙ model) in
    (both.0, some-says size base values before clauses within both.1)

pub missed-extends : (size base before : ℕ) (formula clauses : List (List ℤ)) (values : Assignment) → IsTrue (clauses_within size clauses)
    → base + size ≤ before → IsTrue (clauses_within before formula) → IsModel values formula → MissesSome base values clauses
    → (further : Assignment) × IsModel further (formula ++ some_missed base before clauses) × AreSame before further values
missed-extends size base before formula clauses values within fits known model missing =
    let some = some-fills size base before clauses values within fits missing in (
      some.0,
      list_all-append (meets some.0) formula (some_missed base before clauses)
          ∙ and_from (meets_all some.0 formula) (meets_all some.0 (some_missed base before clauses))
          (same-met before some.0 values some.2 formula known ∙ model) some.1,
      some.2,
    )
