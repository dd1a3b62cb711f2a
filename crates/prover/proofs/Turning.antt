-- A run whose loop is entered one valuation later: it has one valuation more, and it is a run.
use Rattle.std.proofs.Common.{◌≡◌, refl, ◌∙◌, ap, sym, subst, ℕ, suc, ◌+◌, ◌<◌, ◌≤◌, Bool as Truth, List, [], ◌∷◌, ◌++◌, length, take, drop, get_or, inl, inr, arith, length-append}
use Rattle.std.proofs.lemmas.List.{append_assoc, get_or_append_left, get_or-append-add}
use Rattle.std.proofs.lemmas.Bool.{cases_lt}
use Rattle.netlist.proofs.Walking.{length-walk}
use Rattle.netlist.specs.Design.{Design}
use Rattle.netlist.specs.Runs.{IsRun, valuation_at, walk_of}
use Rattle.netlist.specs.Valuations.{IsInitial, IsStep}
use Rattle.netlist.specs.declared.run.Run.{Run}
use Rattle.bounded_theory.specs.Found.{run_size}

-- the loop begins with its second valuation, and ends with its first
abbrev pub turned : Run → Run
turned run = record {
  stem = run.stem ++ take 1 run.loop_part;
  loop_part = drop 1 run.loop_part ++ take 1 run.loop_part;
}

-- a run by its stem and the first and further valuations of its loop
abbrev pub run-with : List (List Truth) → List Truth → List (List Truth) → Run
run-with stem x rest = record { stem = stem; loop_part = x ∷ rest }

-- how many valuations there are up to the end of the loop
abbrev pub size-with : List (List Truth) → List (List Truth) → ℕ
size-with stem rest = length stem + suc (length rest)

-- the walk of it is longer by the valuation that follows the first of the loop
walk-turned : (stem : List (List Truth)) (x : List Truth) (rest : List (List Truth))
    → walk_of (turned (run-with stem x rest)) ≡ walk_of (run-with stem x rest) ++ take 1 (rest ++ x ∷ [])
walk-turned stem x rest =
    ap (λ (front : List (List Truth)). front ++ take 1 (rest ++ x ∷ []))
    (append_assoc stem (x ∷ []) (rest ++ x ∷ []) ∙ sym (append_assoc stem (x ∷ rest) (x ∷ [])))

walk-length : (stem : List (List Truth)) (x : List Truth) (rest : List (List Truth))
    → length (walk_of (run-with stem x rest)) ≡ suc (size-with stem rest)
walk-length stem x rest = omega (arith, length-walk (run-with stem x rest) (omega arith))

-- the walk, as what is in front of the loop and what comes from there on
walk-parts : (stem : List (List Truth)) (x : List Truth) (rest : List (List Truth))
    → walk_of (run-with stem x rest) ≡ stem ++ (x ∷ (rest ++ x ∷ []))
walk-parts stem x rest = append_assoc stem (x ∷ rest) (x ∷ [])

-- its places have the valuations that they had
pub turned-same : (stem : List (List Truth)) (x : List Truth) (rest : List (List Truth)) (place : ℕ) → place < suc (size-with stem rest)
    → valuation_at (turned (run-with stem x rest)) place ≡ valuation_at (run-with stem x rest) place
turned-same stem x rest place within =
    ap (λ (walk : List (List Truth)). get_or walk place []) (walk-turned stem x rest)
    ∙ get_or_append_left (walk_of (run-with stem x rest)) (take 1 (rest ++ x ∷ [])) [] place (omega (arith, walk-length stem x rest))

first-taken : (x : List Truth) (rest : List (List Truth)) → get_or (take 1 (rest ++ x ∷ [])) 0 [] ≡ get_or (rest ++ x ∷ []) 0 []
first-taken x [] = refl
first-taken x (y ∷ rest) = refl

-- the last place has the valuation that follows the first of the loop
pub turned-last : (stem : List (List Truth)) (x : List Truth) (rest : List (List Truth))
    → valuation_at (turned (run-with stem x rest)) (suc (size-with stem rest)) ≡ valuation_at (run-with stem x rest) (suc (length stem))
turned-last stem x rest =
    let long = walk-length stem x rest in
    ap (λ (walk : List (List Truth)). get_or walk (suc (size-with stem rest)) []) (walk-turned stem x rest)
    ∙ ap (λ place. get_or (walk_of (run-with stem x rest) ++ take 1 (rest ++ x ∷ [])) place []) (omega (arith, long))
    ∙ get_or-append-add (walk_of (run-with stem x rest)) (take 1 (rest ++ x ∷ [])) 0 []
    ∙ first-taken x rest
    ∙ sym (get_or-append-add stem (x ∷ (rest ++ x ∷ [])) 1 [])
    ∙ ap (λ place. get_or (stem ++ (x ∷ (rest ++ x ∷ []))) place []) (omega arith)
    ∙ ap (λ (walk : List (List Truth)). get_or walk (suc (length stem)) []) (sym (walk-parts stem x rest))

-- the loop ends with the valuation with which it begins
pub loop-again : (stem : List (List Truth)) (x : List Truth) (rest : List (List Truth))
    → valuation_at (run-with stem x rest) (size-with stem rest) ≡ valuation_at (run-with stem x rest) (length stem)
loop-again stem x rest =
    ap (λ place. get_or ((stem ++ x ∷ rest) ++ x ∷ []) place []) (omega (arith, length-append stem (x ∷ rest)))
    ∙ get_or-append-add (stem ++ x ∷ rest) (x ∷ []) 0 []
    ∙ sym (get_or-append-add stem (x ∷ (rest ++ x ∷ [])) 0 [])
    ∙ ap (λ place. get_or (stem ++ (x ∷ (rest ++ x ∷ []))) place []) (omega arith)
    ∙ ap (λ (walk : List (List Truth)). get_or walk (length stem) []) (sym (walk-parts stem x rest))

turned-length : (stem : List (List Truth)) (x : List Truth) (rest : List (List Truth))
    → length (walk_of (turned (run-with stem x rest))) ≡ suc (suc (size-with stem rest))
turned-length stem x rest =
    omega (
      arith,
      length-walk (turned (run-with stem x rest)) (omega (arith, length-append rest (x ∷ []))),
      length-append rest (x ∷ []),
      length-append stem (x ∷ []),
    )

-- the place in front of the last one
at-end : (stem : List (List Truth)) (x : List Truth) (rest : List (List Truth)) (place : ℕ)
    → suc place < length (walk_of (turned (run-with stem x rest))) → suc (size-with stem rest) ≤ suc place → place ≡ size-with stem rest
at-end stem x rest place within past = omega (arith, turned-length stem x rest, within, past)

turned-step : (design : Design) (stem : List (List Truth)) (x : List Truth) (rest : List (List Truth)) → IsRun design (run-with stem x rest)
    → (place : ℕ) → suc place < length (walk_of (turned (run-with stem x rest)))
    → IsStep design (valuation_at (turned (run-with stem x rest)) place) (valuation_at (turned (run-with stem x rest)) (suc place))
turned-step design stem x rest is place within = elim (cases_lt (suc place) (suc (size-with stem rest))) [
  | inl before ↦
      subst (λ (v : List Truth). IsStep design v (valuation_at (turned (run-with stem x rest)) (suc place)))
      (sym (turned-same stem x rest place (omega (arith, before))))
      (subst (λ (v : List Truth). IsStep design (valuation_at (run-with stem x rest) place) v)
      (sym (turned-same stem x rest (suc place) before))
      (is.steps place (omega (arith, before, walk-length stem x rest))))
  | inr past ↦
      subst (λ (n : ℕ). IsStep design (valuation_at (turned (run-with stem x rest)) n) (valuation_at (turned (run-with stem x rest)) (suc n)))
      (sym (at-end stem x rest place within past))
      (subst (λ (v : List Truth). IsStep design v (valuation_at (turned (run-with stem x rest)) (suc (size-with stem rest))))
      (sym (turned-same stem x rest (size-with stem rest) (omega arith) ∙ loop-again stem x rest))
      (subst (λ (v : List Truth). IsStep design (valuation_at (run-with stem x rest) (length stem)) v) (sym (turned-last stem x rest))
      (is.steps (length stem) (omega (arith, walk-length stem x rest)))))
]

turned-with : (design : Design) (stem : List (List Truth)) (x : List Truth) (rest : List (List Truth))
    → IsRun design (run-with stem x rest) → IsRun design (turned (run-with stem x rest))
turned-with design stem x rest is = record {
  loops = omega (arith, length-append rest (x ∷ []));
  begins = subst (IsInitial design) (sym (turned-same stem x rest 0 (omega arith))) is.begins;
  steps = turned-step design stem x rest is;
}

turned-by : (design : Design) (stem loop_part : List (List Truth)) → IsRun design (record { stem = stem; loop_part = loop_part })
    → IsRun design (turned (record { stem = stem; loop_part = loop_part }))
turned-by design stem [] is = absurd (omega (arith, is.loops))
turned-by design stem (x ∷ rest) is = turned-with design stem x rest is

pub turned-run : (design : Design) (run : Run) → IsRun design run → IsRun design (turned run)
turned-run design run is = turned-by design run.stem run.loop_part is

size-turned-with : (stem : List (List Truth)) (loop_part : List (List Truth)) → 0 < length loop_part
    → run_size (turned (record { stem = stem; loop_part = loop_part })) ≡ suc (length stem + length loop_part)
size-turned-with stem [] loops = absurd (omega (arith, loops))
size-turned-with stem (x ∷ rest) loops = omega (arith, length-append rest (x ∷ []), length-append stem (x ∷ []))

pub size-turned : (run : Run) → 0 < length run.loop_part → run_size (turned run) ≡ suc (run_size run)
size-turned run loops = size-turned-with run.stem run.loop_part loops
