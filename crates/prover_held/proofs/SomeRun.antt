-- Each path from an initial valuation begins a run that then holds its inputs.
use Rattle.std.proofs.Common.{subst, ◌≡◌, inl, inr, ℕ, zero, suc, ◌+◌, ◌-◌, ◌^◌, ◌<◌, ◌≤◌, Bool, true, false, List, [], ◌∷◌, ◌++◌, map, length, get_or, refl, sym, ap, ◌∙◌, arith, length-append}
use Rattle.std.specs.Prelude.{All, nat_lt, if◌then◌else◌}
use Rattle.std.specs.List.{range_with_len}
use Rattle.std.proofs.lemmas.Bool.{cases_lt, le-ltb, lt-ltb}
use Rattle.std.proofs.lemmas.List.{ext_get_or, get_or_append_left, get_or-append-add, length-map}
use Rattle.std.proofs.lemmas.List.Elements.{All-append}
use Rattle.std.proofs.lemmas.List.FromFn.{get_or-map-range_with_len, length-map-range_with_len}
use Rattle.netlist.specs.Design.{Design}
use Rattle.netlist.specs.Sound.{IsOrder, IsSound}
use Rattle.netlist.specs.Valuations.{bit, values, IsInitial, IsStep, IsValuation}
use Rattle.netlist.specs.declared.run.Run.{Run}
use Rattle.netlist.proofs.Following.{some-next}
use Rattle.run_terms.specs.Numbers.{number_of}
use Rattle.run_terms.proofs.NumberValues.{number_of-below}
use Rattle.bounded_theory.proofs.Readings.{run-is, run_with}
use Rattle.gates_frames.specs.Paths.{valuation_of, IsPath}
use Rattle.prover_held.specs.Held.{HasInputsOf, IsHeldRun, last_of}
use Rattle.prover_held.proofs.Pigeons.{pigeons, Twice}

-- bits of one number are one list
number-one : (xs ys : List Bool) → length xs ≡ length ys → number_of xs ≡ number_of ys → xs ≡ ys
number-one [] [] long same = refl
number-one [] (y ∷ ys) long same = absurd (omega arith)
number-one (x ∷ xs) [] long same = absurd (omega arith)
number-one (true ∷ xs) (true ∷ ys) long same = ap (λ (rest : List Bool). true ∷ rest) (number-one xs ys (omega arith) (omega arith))
number-one (true ∷ xs) (false ∷ ys) long same = absurd (omega arith)
number-one (false ∷ xs) (true ∷ ys) long same = absurd (omega arith)
number-one (false ∷ xs) (false ∷ ys) long same = ap (λ (rest : List Bool). false ∷ rest) (number-one xs ys (omega arith) (omega arith))

module _ (d : Design) (order : List ℕ) (sound : IsSound d) (ordered : IsOrder d.tables order) (path : List (List Bool)) (is : IsPath d true path) where
  abbrev n : ℕ
  n = length path

  valid : (place : ℕ) → place < n → IsValuation d (valuation_of path place)
  valid zero low = is.begins.valuation
  valid (suc place) low = (is.steps place low).after

  -- a valuation with the inputs that are held
  record State : Type 0 where
    valuation : List Bool
    valid : IsValuation d valuation
    has : HasInputsOf d (last_of path) valuation

  abbrev held : List Bool
  held = values (last_of path) d.inputs

  fits : length held ≡ length d.inputs
  fits = length-map d.inputs (bit (last_of path))

  next : (state : State) → (later : List Bool) × IsStep d state.valuation later × (values later d.inputs ≡ held)
  next state = some-next d order sound ordered state.valuation held state.valid fits

  -- so many steps from the last valuation of the path
  abbrev state : ℕ → State
  state zero = record { valuation = last_of path; valid = valid (n - 1) (let some = is.some in omega arith); has = refl }
  state (suc count) =
      let later = next (state count) in
      record { valuation = later.0; valid = later.1.after; has = later.2 }

  step : (count : ℕ) → IsStep d (state count).valuation (state (suc count)).valuation
  step count = (next (state count)).1

  number : ℕ → ℕ
  number count = number_of (state (suc count)).valuation

  number-below : (count : ℕ) → number count < 2 ^ d.signals
  unfolding number
  number-below count = subst (λ (size : ℕ). number_of (state (suc count)).valuation < 2 ^ size) (state (suc count)).valid.size (number_of-below (state (suc count)).valuation)

  twice : Twice number (2 ^ d.signals)
  twice = pigeons (2 ^ d.signals) number (λ count _. number-below count)

  again : (state (suc twice.first)).valuation ≡ (state (suc twice.second)).valuation
  unfolding number
  again = number-one (state (suc twice.first)).valuation (state (suc twice.second)).valuation
      ((state (suc twice.first)).valid.size ∙ sym (state (suc twice.second)).valid.size) twice.same

  -- the path, and then what follows it
  abbrev at : ℕ → List Bool
  at place = if nat_lt place n then valuation_of path place else (state (suc (place - n))).valuation

  at-path : (place : ℕ) → place < n → at place ≡ valuation_of path place
  at-path place low = rw (lt-ltb place n low) refl

  at-state : (count : ℕ) → at (n + count) ≡ (state (suc count)).valuation
  at-state count =
      let e : n + count - n ≡ count = omega arith in
      ap (λ (b : Bool). if b then valuation_of path (n + count) else (state (suc (n + count - n))).valuation) (le-ltb (n + count) n (omega arith))
      ∙ ap (λ k. (state (suc k)).valuation) e

  at-step : (place : ℕ) → IsStep d (at place) (at (suc place))
  at-step place = elim (cases_lt (suc place) n) [
    | inl k ↦ subst (λ (v : List Bool). IsStep d v (at (suc place))) (sym (at-path place (omega arith)))
        (subst (λ (v : List Bool). IsStep d (valuation_of path place) v) (sym (at-path (suc place) k)) (is.steps place k))
    | inr k ↦ elim (cases_lt place n) [
      | inl l ↦
          let e : place ≡ n - 1 = omega arith in
          let f : n + 0 ≡ suc place = omega arith in
          subst (λ (v : List Bool). IsStep d v (at (suc place))) (sym (at-path place l ∙ ap (valuation_of path) e))
          (subst (λ (v : List Bool). IsStep d (last_of path) v) (sym (at-state 0) ∙ ap at f) (step 0))
      | inr l ↦
          let e : n + (place - n) ≡ place = omega arith in
          let f : n + suc (place - n) ≡ suc place = omega arith in
          subst (λ (v : List Bool). IsStep d v (at (suc place))) (sym (at-state (place - n)) ∙ ap at e)
          (subst (λ (v : List Bool). IsStep d (state (suc (place - n))).valuation v) (sym (at-state (suc (place - n))) ∙ ap at f) (step (suc (place - n))))
    ]
  ]

  abbrev first : ℕ
  first = n + twice.first

  abbrev end : ℕ
  end = n + twice.second

  abbrev run : Run
  run = run_with at first end

  abbrev rest : List (List Bool)
  rest = map at (range_with_len n twice.first)

  rest-length : length rest ≡ twice.first
  rest-length = length-map-range_with_len at n twice.first

  stem-length : length run.stem ≡ n + twice.first
  stem-length = length-map-range_with_len at 0 first

  begins : run.stem ≡ path ++ rest
  begins = ext_get_or [] run.stem (path ++ rest) (stem-length ∙ sym (length-append path rest ∙ ap (λ k. n + k) rest-length)) (λ k low.
      (let inside : k < n + twice.first = omega (arith, low, stem-length) in
      get_or-map-range_with_len at 0 first k k [] inside (omega arith) ∙ elim (cases_lt k n) [
        | inl front ↦ at-path k front ∙ sym (get_or_append_left path rest [] k front)
        | inr back ↦
            let e : k ≡ n + (k - n) = omega arith in
            sym (ap (λ j. get_or (path ++ rest) j []) e ∙ get_or-append-add path rest (k - n) []
            ∙ get_or-map-range_with_len at n twice.first (k - n) k [] (omega arith) (omega arith))
      ]))

  abbrev Holds : List Bool → Type 0
  Holds valuation = HasInputsOf d (last_of path) valuation

  holds-at : (place : ℕ) → n ≤ place → Holds (at place)
  holds-at place low =
      let e : n + (place - n) ≡ place = omega arith in
      subst Holds (sym (at-state (place - n)) ∙ ap at e) (state (suc (place - n))).has

  holds-range : (from count : ℕ) → n ≤ from → All Holds (map at (range_with_len from count))
  holds-range from count low k other inside =
      subst Holds (sym (get_or-map-range_with_len at from count k (from + k) other (omega (arith, inside, length-map-range_with_len at from count)) refl))
      (holds-at (from + k) (omega arith))

  initial : IsInitial d (at 0)
  initial = subst (λ (v : List Bool). IsInitial d v) (sym (at-path 0 is.some)) is.begins

  pub some-run : (run : Run) × IsHeldRun d path run
  some-run = (
    run,
    record {
      is = run-is at first end (omega (arith, twice.less)) d (at-state twice.first ∙ again ∙ sym (at-state twice.second)) initial (λ i _. at-step i);
      rest = rest;
      begins = begins;
      holds = All-append Holds rest run.loop_part (holds-range n twice.first (omega arith)) (holds-range first (end - first) (omega arith));
    },
  )
