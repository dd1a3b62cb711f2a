-- The places of a run that holds its inputs.
use Rattle.std.proofs.Common.{inl, inr, subst, ◌≡◌, ℕ, zero, suc, ◌+◌, ◌-◌, ◌<◌, ◌≤◌, Bool, List, [], ◌∷◌, ◌++◌, length, take, get_or, Some, refl, sym, ap, ◌∙◌, arith, append_assoc, length-append}
use Rattle.std.specs.Prelude.{All}
use Rattle.std.proofs.lemmas.Bool.{cases_lt}
use Rattle.std.proofs.lemmas.List.{get_or_append_left, get_or-append-add}
use Rattle.std.proofs.lemmas.List.Elements.{All-append, All-take}
use Rattle.std.proofs.lemmas.List.FromFn.{length-map-range_with_len}
use Rattle.psl_tree.specs.Letters.{letter_at}
use Rattle.alternating_theory.specs.Courses as lasso
use Rattle.alternating_theory.specs.Courses.{places}
use Rattle.netlist.specs.Design.{Design}
use Rattle.netlist.specs.Runs.{bits_of, valuation_at, walk_of, word}
use Rattle.netlist.specs.Valuations.{values, IsStep}
use Rattle.netlist.specs.declared.run.Run.{Run}
use Rattle.netlist.proofs.Walking.{length-walk}
use Rattle.run_terms.specs.Letters.{before_at, letter_after}
use Rattle.run_terms.proofs.LetterRuns.{places-of_word, word-letter}
use Rattle.bounded_theory.specs.Numbers.{place_after}
use Rattle.bounded_theory.proofs.Ranks.{after-below, after-last, after-other}
use Rattle.prover_held.specs.Held.{HasInputsOf, IsHeldRun, last_of}
use Rattle.prover_held.specs.Lasting.{before_in, letter_in}
use Rattle.gates_frames.specs.Paths.{valuation_of}

module _ (d : Design) (path : List (List Bool)) (run : Run) (held : IsHeldRun d path run) where
  abbrev pub n : ℕ
  n = length path

  abbrev Holds : List Bool → Type 0
  Holds valuation = HasInputsOf d (last_of path) valuation

  pub stem-length : length run.stem ≡ n + length held.rest
  stem-length = ap (λ (s : List (List Bool)). length s) held.begins ∙ length-append path held.rest

  -- the last place of the word
  abbrev pub last : ℕ
  last = length run.stem + length run.loop_part

  pub walk-long : length (walk_of run) ≡ suc last
  walk-long = omega (arith, length-walk run held.is.loops)

  loop-holds : All Holds run.loop_part
  loop-holds k other low =
      subst Holds (get_or-append-add held.rest run.loop_part k other) (held.holds (length held.rest + k) other (omega (arith, length-append held.rest run.loop_part)))

  abbrev behind : List (List Bool)
  behind = (held.rest ++ run.loop_part) ++ take 1 run.loop_part

  behind-holds : All Holds behind
  behind-holds = All-append Holds (held.rest ++ run.loop_part) (take 1 run.loop_part) held.holds (All-take Holds 1 run.loop_part loop-holds)

  walk-is : walk_of run ≡ path ++ behind
  walk-is = ap (λ (s : List (List Bool)). (s ++ run.loop_part) ++ take 1 run.loop_part) held.begins ∙ simp append_assoc

  -- the first places are those of the path
  pub in-path : (i : ℕ) → i < n → valuation_at run i ≡ valuation_of path i
  in-path i low = ap (λ (w : List (List Bool)). get_or w i []) walk-is ∙ get_or_append_left path behind [] i low

  -- the later ones have the inputs of its last one
  pub behind-path : (i : ℕ) → n ≤ i → i ≤ last → values (valuation_at run i) d.inputs ≡ values (last_of path) d.inputs
  behind-path i low high =
      let long : length (walk_of run) ≡ n + length behind = ap (λ (w : List (List Bool)). length w) walk-is ∙ length-append path behind in
      let at : valuation_at run i ≡ get_or behind (i - n) [] =
      ap (λ (w : List (List Bool)). get_or w i []) walk-is ∙ ap (λ j. get_or (path ++ behind) j []) (omega arith) ∙ get_or-append-add path behind (i - n) [] in
      subst Holds (sym at) (behind-holds (i - n) [] (omega (arith, walk-long)))

  before-path : (i : ℕ) → i < n → before_at run i ≡ before_in path i
  before-path zero low = refl
  before-path (suc i) low = ap (λ (v : List Bool). Some v) (in-path i (omega arith))

  pub places-are : places (word d run) ≡ suc last
  places-are = places-of_word d run

  -- the letters of the word
  pub letter-is : (i : ℕ) → i ≤ last → lasso.letter_at (word d run) i ≡ letter_after d.names (before_at run i) (valuation_at run i)
  letter-is i high = word-letter d run i (omega (arith, places-are))

  pub letter-in_path : (i : ℕ) → i < n → lasso.letter_at (word d run) i ≡ letter_in d path i
  letter-in_path i low = letter-is i (omega (arith, stem-length)) ∙ rw (before-path i low, in-path i low) refl

  -- where the loop of the word begins
  abbrev pub again : ℕ
  again = length (word d run).stem

  pub again-is : again ≡ suc (length run.stem)
  again-is = length-map-range_with_len (letter_at (bits_of run) d.names) 0 (suc (length run.stem))

  pub loop-some : 0 < length (word d run).looped
  loop-some = omega (arith, length-map-range_with_len (letter_at (bits_of run) d.names) (suc (length run.stem)) (length run.loop_part), held.is.loops)

  -- the place after another one
  abbrev pub after : ℕ → ℕ
  after = place_after last again

  pub after-path : (i : ℕ) → i < n → after i ≡ suc i
  after-path i low = after-other last again i (omega (arith, stem-length, held.is.loops))

  pub after-within : (i : ℕ) → i ≤ last → after i ≤ last
  after-within i high = after-below last again i (omega (arith, again-is, held.is.loops)) high

  pub after-behind : (i : ℕ) → n ≤ i → i ≤ last → n ≤ after i
  after-behind i low high = elim (cases_lt i last) [
    | inl k ↦ subst (λ j. n ≤ j) (sym (after-other last again i k)) (omega arith)
    | inr k ↦
        let e : i ≡ last = omega arith in
        subst (λ j. n ≤ j) (sym (ap after e ∙ after-last last again)) (omega (arith, again-is, stem-length))
  ]

  first-of : (xs : List (List Bool)) → 0 < length xs → get_or (take 1 xs) 0 [] ≡ get_or xs 0 []
  first-of [] some = absurd (omega arith)
  first-of (x ∷ xs) some = refl

  -- the last place has the valuation with which the loop begins
  closes : valuation_at run last ≡ valuation_at run (length run.stem)
  closes =
      let loops = held.is.loops in
      let whole = run.stem ++ run.loop_part in
      let long : length whole ≡ last = length-append run.stem run.loop_part in
      let end : valuation_at run last ≡ get_or run.loop_part 0 [] =
      ap (λ j. get_or (walk_of run) j []) (omega arith) ∙ get_or-append-add whole (take 1 run.loop_part) 0 [] ∙ first-of run.loop_part loops in
      let enter : valuation_at run (length run.stem) ≡ get_or run.loop_part 0 [] =
      get_or_append_left whole (take 1 run.loop_part) [] (length run.stem) (omega arith)
      ∙ ap (λ j. get_or whole j []) (omega arith) ∙ get_or-append-add run.stem run.loop_part 0 [] in
      end ∙ sym enter

  pub before-after : (i : ℕ) → i ≤ last → before_at run (after i) ≡ Some (valuation_at run i)
  before-after i high = elim (cases_lt i last) [
    | inl k ↦ ap (before_at run) (after-other last again i k)
    | inr k ↦
        let e : i ≡ last = omega arith in
        ap (before_at run) (ap after e ∙ after-last last again ∙ again-is)
        ∙ ap (λ (v : List Bool). Some v) (sym closes ∙ ap (valuation_at run) (sym e))
  ]

  pub step-after : (i : ℕ) → i ≤ last → IsStep d (valuation_at run i) (valuation_at run (after i))
  step-after i high = elim (cases_lt i last) [
    | inl k ↦ subst (λ j. IsStep d (valuation_at run i) (valuation_at run j)) (sym (after-other last again i k))
        (held.is.steps i (omega (arith, walk-long)))
    | inr k ↦
        let e : i ≡ last = omega arith in
        let loops = held.is.loops in
        subst (λ (v : List Bool). IsStep d v (valuation_at run (after i))) (sym closes ∙ ap (valuation_at run) (sym e))
        (subst (λ j. IsStep d (valuation_at run (length run.stem)) (valuation_at run j)) (sym (ap after e ∙ after-last last again ∙ again-is))
        (held.is.steps (length run.stem) (omega (arith, walk-long))))
  ]
