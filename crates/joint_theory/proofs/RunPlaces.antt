-- The places of a run's word, and the valuations from one to the next.
use Rattle.std.proofs.Common.{◌≡◌, inl, inr, refl, sym, ap, ◌∙◌, subst, ℕ, suc, ◌+◌, ◌<◌, Bool as Truth, List, [], ◌++◌, length, take, get_or, Some, arith}
use Rattle.std.specs.Prelude.{◌==◌, if◌then◌else◌}
use Rattle.std.specs.List.{range_with_len}
use Rattle.std.proofs.lemmas.Bool.{cases_lt, lt-ltb, le-ltb, eq-eqb}
use Rattle.std.proofs.lemmas.List.{length-append, length-map, length-take-le, get_or_append_left, get_or-append-add, get_or-take}
use Rattle.std.proofs.lemmas.List.FromFn.{length-range_with_len}
use Rattle.psl_tree.specs.Letters.{letter_at}
use Rattle.psl_tree.specs.declared.letter.Word.{Word}
use Rattle.alternating_theory.specs.Courses.{next_place, places}
use Rattle.netlist.specs.Design.{Design}
use Rattle.netlist.specs.Runs.{walk_of, valuation_at, bits_of, word, IsRun}
use Rattle.netlist.specs.Valuations.{IsStep}
use Rattle.netlist.specs.declared.run.Run.{Run}
use Rattle.run_terms.specs.Letters.{before_at}
use Rattle.run_terms.proofs.LetterRuns.{places-of_word}

module _ (design : Design) (run : Run) (is : IsRun design run) where
  abbrev run_word : Word
  run_word = word design run

  stem-length : length run_word.stem ≡ suc (length run.stem)
  stem-length =
      length-map (range_with_len 0 (suc (length run.stem))) (letter_at (bits_of run) design.names) ∙ length-range_with_len 0 (suc (length run.stem))

  pub word-places : places run_word ≡ suc (length run.stem) + length run.loop_part
  word-places = omega (arith, places-of_word design run)

  walk-length : length (walk_of run) ≡ places run_word
  walk-length = omega (
    arith,
    word-places,
    length-append (run.stem ++ run.loop_part) (take 1 run.loop_part),
    length-append run.stem run.loop_part,
    length-take-le 1 run.loop_part is.loops,
  )

  -- the loop's first valuation comes once more at the last place
  last-again : valuation_at run (length run.stem + length run.loop_part) ≡ valuation_at run (length run.stem)
  last-again =
      let both = length-append run.stem run.loop_part in
      let e : length run.stem + length run.loop_part ≡ length (run.stem ++ run.loop_part) + 0 = omega arith in
      let f : length run.stem ≡ length run.stem + 0 = omega arith in
      ap (valuation_at run) e
      ∙ get_or-append-add (run.stem ++ run.loop_part) (take 1 run.loop_part) 0 []
      ∙ get_or-take 1 run.loop_part 0 [] (omega arith)
      ∙ sym (get_or-append-add run.stem run.loop_part 0 [])
      ∙ ap (λ (n : ℕ). get_or (run.stem ++ run.loop_part) n []) (sym f)
      ∙ sym (get_or_append_left (run.stem ++ run.loop_part) (take 1 run.loop_part) [] (length run.stem) (omega (arith, both, is.loops)))

  -- after a place comes the next one, or after the last one the second of the loop
  record IsNext (place next : ℕ) : Type 0 where
    within : next < places run_word
    follows : (before : ℕ) × (next ≡ suc before) × (valuation_at run place ≡ valuation_at run before)

  next-is : (place : ℕ) → place < places run_word → IsNext place (next_place run_word place)
  next-is place below = elim (cases_lt (suc place) (places run_word)) [
    | inl l ↦ (
        let e : next_place run_word place ≡ suc place =
        ap (λ (t : Truth). if t then suc place else if suc place == places run_word then length run_word.stem else place) (lt-ltb (suc place) (places run_word) l) in
        record { within = omega arith; follows = (place, e, refl) })
    | inr l ↦ (
        let e : next_place run_word place ≡ suc (length run.stem) =
        ap (λ (t : Truth). if t then suc place else if suc place == places run_word then length run_word.stem else place) (le-ltb (suc place) (places run_word) l)
        ∙ ap (λ (t : Truth). if t then length run_word.stem else place) (eq-eqb (suc place) (places run_word) (omega arith)) ∙ stem-length in
        let f : place ≡ length run.stem + length run.loop_part = omega (arith, word-places) in
        record { within = omega (arith, word-places, is.loops); follows = (length run.stem, e, ap (valuation_at run) f ∙ last-again) })
  ]

  pub next-within : (place : ℕ) → place < places run_word → next_place run_word place < places run_word
  next-within place below = (next-is place below).within

  pub next-before : (place : ℕ) → place < places run_word → before_at run (next_place run_word place) ≡ Some (valuation_at run place)
  next-before place below =
      let follows = (next-is place below).follows in ap (before_at run) follows.1 ∙ ap Some (sym follows.2)

  pub next-step : (place : ℕ) → place < places run_word → IsStep design (valuation_at run place) (valuation_at run (next_place run_word place))
  next-step place below =
      let next = next-is place below in
      let follows = next.follows in
      let within = next.within in
      let step : IsStep design (valuation_at run follows.0) (valuation_at run (suc follows.0)) = is.steps follows.0 (omega (arith, walk-length, follows.1, within)) in
      subst (λ (v : List Truth). IsStep design v (valuation_at run (next_place run_word place))) (sym follows.2)
      (subst (λ (n : ℕ). IsStep design (valuation_at run follows.0) (valuation_at run n)) (sym follows.1) step)
