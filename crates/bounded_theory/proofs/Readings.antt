-- A run that is read from valuations in order, of which the last comes again where the loop begins.
use Rattle.std.proofs.Common.{◌≡◌, inl, inr, ℕ, suc, ◌-◌, ◌<◌, ◌≤◌, Bool, List, [], ◌∷◌, ◌++◌, map, length, take, get_or, refl, sym, ap, ◌∙◌, subst, arith, length-append}
use Rattle.std.specs.List.{range_with_len}
use Rattle.std.proofs.lemmas.Bool.{cases_lt}
use Rattle.std.proofs.lemmas.List.{get_or_append_left, get_or-append-add}
use Rattle.std.proofs.lemmas.List.FromFn.{length-map-range_with_len, get_or-map-range_with_len}
use Rattle.netlist.specs.Design.{Design}
use Rattle.netlist.specs.Runs.{IsRun, valuation_at, walk_of}
use Rattle.netlist.specs.Valuations.{IsInitial, IsStep}
use Rattle.netlist.specs.declared.run.Run.{Run}
use Rattle.bounded_theory.specs.Found.{run_size}

-- the run of valuations in order, whose loop begins at a place
abbrev pub run_with : (ℕ → List Bool) → ℕ → ℕ → Run
run_with valuation first n = record {
  stem = map valuation (range_with_len 0 first);
  loop_part = map valuation (range_with_len first (n - first));
}

module _ (valuation : ℕ → List Bool) (first n : ℕ) (below : first < n) where
  abbrev stem_of : List (List Bool)
  stem_of = map valuation (range_with_len 0 first)

  abbrev loop_of : List (List Bool)
  loop_of = map valuation (range_with_len first (n - first))

  stem-length : length stem_of ≡ first
  stem-length = length-map-range_with_len valuation 0 first

  loop-length : length loop_of ≡ n - first
  loop-length = length-map-range_with_len valuation first (n - first)

  both-length : length (stem_of ++ loop_of) ≡ n
  both-length = omega (arith, length-append stem_of loop_of, stem-length, loop-length)

  loop-first : get_or loop_of 0 [] ≡ valuation first
  loop-first = get_or-map-range_with_len valuation first (n - first) 0 first [] (omega arith) (omega arith)

  again : (xs : List (List Bool)) → 0 < length xs → (length (take 1 xs) ≡ 1) × (get_or (take 1 xs) 0 [] ≡ get_or xs 0 [])
  again [] some = absurd (omega arith)
  again (x ∷ xs) some = (refl, refl)

  pub walk-length : length (walk_of (run_with valuation first n)) ≡ suc n
  walk-length = omega (arith, length-append (stem_of ++ loop_of) (take 1 loop_of), both-length, (again loop_of (omega (arith, loop-length))).0)

  in-stem : (i : ℕ) → i < first → get_or (stem_of ++ loop_of) i [] ≡ valuation i
  in-stem i low =
      get_or_append_left stem_of loop_of [] i (omega (arith, stem-length))
      ∙ get_or-map-range_with_len valuation 0 first i i [] low (omega arith)

  in-loop : (i : ℕ) → first ≤ i → i < n → get_or (stem_of ++ loop_of) i [] ≡ valuation i
  in-loop i low high =
      ap (λ j. get_or (stem_of ++ loop_of) j []) (omega (arith, stem-length))
      ∙ get_or-append-add stem_of loop_of (i - first) []
      ∙ get_or-map-range_with_len valuation first (n - first) (i - first) i [] (omega arith) (omega arith)

  in-both : (i : ℕ) → i < n → get_or (stem_of ++ loop_of) i [] ≡ valuation i
  in-both i high = elim (cases_lt i first) [ inl low ↦ in-stem i low | inr low ↦ in-loop i low high ]

  before-last : (i : ℕ) → i < n → valuation_at (run_with valuation first n) i ≡ valuation i
  before-last i high = get_or_append_left (stem_of ++ loop_of) (take 1 loop_of) [] i (omega (arith, both-length)) ∙ in-both i high

  at-last : valuation_at (run_with valuation first n) n ≡ valuation first
  at-last =
      ap (λ j. get_or ((stem_of ++ loop_of) ++ take 1 loop_of) j []) (omega (arith, both-length))
      ∙ get_or-append-add (stem_of ++ loop_of) (take 1 loop_of) 0 []
      ∙ (again loop_of (omega (arith, loop-length))).1 ∙ loop-first

  pub valuation-at : valuation first ≡ valuation n → (i : ℕ) → i ≤ n → valuation_at (run_with valuation first n) i ≡ valuation i
  valuation-at closed i high = elim (cases_lt i n) [
    | inl low ↦ before-last i low
    | inr low ↦ let e : n ≡ i = omega arith in subst (λ j. valuation_at (run_with valuation first n) j ≡ valuation j) e (at-last ∙ closed)
  ]

  pub run-is : (design : Design) → valuation first ≡ valuation n → IsInitial design (valuation 0)
      → ((i : ℕ) → i < n → IsStep design (valuation i) (valuation (suc i))) → IsRun design (run_with valuation first n)
  run-is design closed begin steps = record {
    loops = omega (arith, loop-length);
    begins = subst (λ v. IsInitial design v) (sym (valuation-at closed 0 (omega arith))) begin;
    steps = λ i low.
        let high : i < n = omega (arith, low, walk-length) in
        subst (λ v. IsStep design v (valuation_at (run_with valuation first n) (suc i))) (sym (valuation-at closed i (omega arith)))
        (subst (λ v. IsStep design (valuation i) v) (sym (valuation-at closed (suc i) high)) (steps i high));
  }

  pub sizes : (length (run_with valuation first n).stem ≡ first) × (length (run_with valuation first n).loop_part ≡ n - first)
  sizes = (stem-length, loop-length)

-- the first valuation of the loop comes again at the end
pub loop-again : (run : Run) → 0 < length run.loop_part → valuation_at run (length run.stem) ≡ valuation_at run (run_size run)
loop-again run some =
    get_or_append_left (run.stem ++ run.loop_part) (take 1 run.loop_part) [] (length run.stem) (omega (arith, length-append run.stem run.loop_part))
    ∙ ap (λ j. get_or (run.stem ++ run.loop_part) j []) (omega arith) ∙ get_or-append-add run.stem run.loop_part 0 []
    ∙ sym (ap (λ j. get_or ((run.stem ++ run.loop_part) ++ take 1 run.loop_part) j []) (omega (arith, length-append run.stem run.loop_part))
    ∙ get_or-append-add (run.stem ++ run.loop_part) (take 1 run.loop_part) 0 [] ∙ first_of run.loop_part some)
  where
    first_of : (xs : List (List Bool)) → 0 < length xs → get_or (take 1 xs) 0 [] ≡ get_or xs 0 []
    first_of [] some = absurd (omega arith)
    first_of (x ∷ xs) some = refl

pub walk-size : (run : Run) → 0 < length run.loop_part → length (walk_of run) ≡ suc (run_size run)
walk-size run some = omega (arith, length-append (run.stem ++ run.loop_part) (take 1 run.loop_part), length-append run.stem run.loop_part, one run.loop_part some)
  where
    one : (xs : List (List Bool)) → 0 < length xs → length (take 1 xs) ≡ 1
    one [] some = absurd (omega arith)
    one (x ∷ xs) some = refl
