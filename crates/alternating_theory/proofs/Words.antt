-- A word with a loop is what its course reads from the first place on.
use Rattle.std.proofs.Common.{◌≡◌, ◌⊎◌, inl, inr, refl, sym, ap, ◌∙◌, ℕ, zero, suc, ◌+◌, ◌-◌, ◌*◌, ◌/◌, ◌%◌, ◌≤◌, ◌<◌, List, [], ◌∷◌, ◌++◌, length, Some, arith}
use Rattle.std.specs.Prelude.{nat_lt, if◌then◌else◌, slice_get}
use Rattle.std.proofs.lemmas.Bool.{lt-ltb, le-ltb, eq-eqb, cases_lt}
use Rattle.std.proofs.lemmas.Nat.{mod-mul-add, div-add-mod', mod_below}
use mathlib.Core.Path.{fun_ext}
use Rattle.psl_tree.specs.Trace.{trace_of}
use Rattle.psl_tree.specs.declared.letter.Letter.{Letter}
use Rattle.psl_tree.specs.declared.letter.Word.{Word}
use Rattle.alternating_theory.specs.Courses.{walk, read_from, letter_in, places, letter_at, next_place, course_of}

-- letters of a list and of what stands behind it

front-letter : (xs ys : List Letter) (k : ℕ) → k < length xs → Some (letter_in (xs ++ ys) k) ≡ slice_get xs k
front-letter [] ys k h = absurd (omega arith)
front-letter (x ∷ xs) ys zero h = refl
front-letter (x ∷ xs) ys (suc k) h = front-letter xs ys k (omega arith)

back-letter : (xs ys : List Letter) (j k : ℕ) → k ≡ length xs + j → letter_in (xs ++ ys) k ≡ letter_in ys j
back-letter [] ys j k e = ap (λ n. letter_in ys n) (omega arith)
back-letter (x ∷ xs) ys j zero e = absurd (omega arith)
back-letter (x ∷ xs) ys j (suc k) e = back-letter xs ys j k (omega arith)

own-letter : (xs : List Letter) (k : ℕ) → k < length xs → Some (letter_in xs k) ≡ slice_get xs k
own-letter [] k h = absurd (omega arith)
own-letter (x ∷ xs) zero h = refl
own-letter (x ∷ xs) (suc k) h = own-letter xs k (omega arith)

-- remainders, one number on

rest-goes_on : (n l : ℕ) → 0 < l → suc (n % l) < l → suc n % l ≡ suc (n % l)
rest-goes_on n l p h =
    let e : suc n ≡ n / l * l + suc (n % l) = omega (arith, div-add-mod' n l) in
    ap (λ (k : ℕ). k % l) e ∙ mod-mul-add (n / l) l (suc (n % l)) h

rest-begins : (n l : ℕ) → 0 < l → suc (n % l) ≡ l → suc n % l ≡ 0
rest-begins n l p h =
    let e : suc n ≡ (n / l + 1) * l + 0 = grind (arith, div-add-mod' n l) in
    ap (λ (k : ℕ). k % l) e ∙ mod-mul-add (n / l + 1) l 0 p

module _ (word : Word) (some : 0 < length word.looped) where
  abbrev stem : ℕ
  stem = length word.stem

  abbrev loop : ℕ
  loop = length word.looped

  -- the place where a number of the trace stands
  abbrev place : ℕ → ℕ
  place k = if nat_lt k stem then k else stem + (k - stem) % loop

  in-stem : (k : ℕ) → k < stem → place k ≡ k
  in-stem k h = rw (lt-ltb k stem h) refl

  in-loop : (k : ℕ) → stem ≤ k → place k ≡ stem + (k - stem) % loop
  in-loop k h = rw (le-ltb k stem h) refl

  step-inside : (p : ℕ) → suc p < places word → next_place word p ≡ suc p
  step-inside p h = rw (lt-ltb (suc p) (places word) h) refl

  step-last : (p : ℕ) → suc p ≡ places word → next_place word p ≡ stem
  step-last p h =
      let a = le-ltb (suc p) (places word) (omega arith) in let b = eq-eqb (suc p) (places word) h in rw (a, b) refl

  rest-below : (k : ℕ) → (k - stem) % loop < loop
  rest-below k = mod_below (k - stem) loop some

  step-place : (k : ℕ) → next_place word (place k) ≡ place (suc k)
  step-place k = elim (cases_lt k stem) [
    | inl h ↦ ap (λ n. next_place word n) (in-stem k h) ∙ step-inside k (omega arith) ∙ sym (first (cases_lt (suc k) stem) h)
    | inr h ↦ ap (λ n. next_place word n) (in-loop k h) ∙ later (cases_lt (suc ((k - stem) % loop)) loop) h ∙ sym (in-loop (suc k) (omega arith))
  ]
    where
      first : ((suc k < stem) ⊎ (stem ≤ suc k)) → k < stem → place (suc k) ≡ suc k
      first (inl a) h = in-stem (suc k) a
      first (inr a) h =
          let e : suc k - stem ≡ 0 = omega arith in
          let z : 0 % loop ≡ 0 = omega arith in
          in-loop (suc k) a ∙ ap (λ n. stem + n % loop) e ∙ ap (λ n. stem + n) z ∙ omega arith

      moved : stem ≤ k → suc k - stem ≡ suc (k - stem)
      moved h = omega arith

      later : ((suc ((k - stem) % loop) < loop) ⊎ (loop ≤ suc ((k - stem) % loop))) → stem ≤ k
          → next_place word (stem + (k - stem) % loop) ≡ stem + (suc k - stem) % loop
      later (inl a) h =
          step-inside (stem + (k - stem) % loop) (omega arith)
          ∙ sym (ap (λ n. stem + n % loop) (moved h) ∙ ap (λ n. stem + n) (rest-goes_on (k - stem) loop some a) ∙ omega arith)
      later (inr a) h =
          let b = rest-below k in
          let e : suc ((k - stem) % loop) ≡ loop = omega arith in
          step-last (stem + (k - stem) % loop) (omega arith)
          ∙ sym (ap (λ n. stem + n % loop) (moved h) ∙ ap (λ n. stem + n) (rest-begins (k - stem) loop some e) ∙ omega arith)

  walk-place : (k i : ℕ) → walk (next_place word) k (place i) ≡ place (i + k)
  walk-place zero i = let e : i ≡ i + 0 = omega arith in ap (λ n. place n) e
  walk-place (suc k) i =
      let e : suc i + k ≡ i + suc k = omega arith in
      ap (λ n. walk (next_place word) k n) (step-place i) ∙ walk-place k (suc i) ∙ ap (λ n. place n) e

  place-zero : place 0 ≡ 0
  place-zero = elim (cases_lt 0 stem) [
    | inl h ↦ in-stem 0 h
    | inr h ↦ in-loop 0 h ∙ (let e : 0 - stem ≡ 0 = omega arith in let z : 0 % loop ≡ 0 = omega arith in
        ap (λ n. stem + n % loop) e ∙ ap (λ n. stem + n) z ∙ omega arith)
  ]

  walked : (k : ℕ) → walk (next_place word) k 0 ≡ place k
  walked k =
      let e : 0 + k ≡ k = omega arith in
      ap (λ n. walk (next_place word) k n) (sym place-zero) ∙ walk-place k 0 ∙ ap (λ n. place n) e

  read : (k : ℕ) → Some (letter_at word (place k)) ≡ trace_of word k
  read k = elim (cases_lt k stem) [
    | inl h ↦ ap (λ n. Some (letter_at word n)) (in-stem k h) ∙ front-letter word.stem word.looped k h ∙ sym (first h)
    | inr h ↦ ap (λ n. Some (letter_at word n)) (in-loop k h)
        ∙ ap Some (back-letter word.stem word.looped ((k - stem) % loop) (stem + (k - stem) % loop) refl)
        ∙ own-letter word.looped ((k - stem) % loop) (rest-below k) ∙ sym (later h)
  ]
    where
      first : k < stem → trace_of word k ≡ slice_get word.stem k
      first h = rw (lt-ltb k stem h) refl

      later : stem ≤ k → trace_of word k ≡ slice_get word.looped ((k - stem) % loop)
      later h = rw (le-ltb k stem h) refl

  pub word_read : trace_of word ≡ read_from (course_of word) 0
  word_read = fun_ext (λ k. sym (ap (λ n. Some (letter_at word n)) (walked k) ∙ read k))
