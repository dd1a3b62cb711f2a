-- The first letters of a run that begins with a path are those of the path.
use Rattle.std.proofs.Common.{◌≡◌, refl, ◌∙◌, ap, sym, ℕ, zero, suc, ◌+◌, ◌-◌, ◌<◌, Bool, List, [], ◌++◌, length, take, get_or, Option, Some, arith, length-append}
use Rattle.std.proofs.lemmas.List.{append-nil, get_or_append_left}
use Rattle.netlist.specs.Design.{Design}
use Rattle.netlist.specs.Runs.{valuation_at, word}
use Rattle.netlist.specs.declared.run.Run.{Run}
use Rattle.prover.proofs.Turned.{bits-alike, in-stem, letter-alike, letter-of}
use Rattle.prover_held.specs.Held.{IsHeldRun}
use Rattle.psl_tree.specs.Trace.{Trace, first, joined, suffix, trace_of}
use Rattle.psl_tree.specs.declared.letter.Letter.{Letter}
use Rattle.findings.specs.Recordings.{along}

-- traces that are the same at so many places have the same first letters
first-same : (count : ℕ) (one two : Trace) → ((place : ℕ) → place < count → one place ≡ two place) → first count one ≡ first count two
first-same zero one two same = refl
first-same (suc count) one two same =
    ap (λ (o : Option Letter). joined o (first count (suffix one 1))) (same 0 (omega arith))
    ∙ ap (λ (rest : List Letter). joined (two 0) rest) (first-same count (suffix one 1) (suffix two 1) (λ place within.
    ap one (let e : 1 + place ≡ suc place = omega arith in e) ∙ same (suc place) (omega (arith, within))
    ∙ ap two (let e : suc place ≡ 1 + place = omega arith in e)))

module _ (path rest : List (List Bool)) (run : Run) (begins : run.stem ≡ path ++ rest) where
  at-first : (place : ℕ) → place < length path → valuation_at run place ≡ get_or path place []
  at-first place within =
      ap (λ (stem : List (List Bool)). get_or (stem ++ run.loop_part ++ take 1 run.loop_part) place []) begins
      ∙ get_or_append_left (path ++ rest ++ run.loop_part) (take 1 run.loop_part) [] place
      (omega (arith, within, length-append (path ++ rest) run.loop_part, length-append path rest))
      ∙ get_or_append_left (path ++ rest) run.loop_part [] place (omega (arith, within, length-append path rest))
      ∙ get_or_append_left path rest [] place within

  letter-first : (design : Design) (place : ℕ) → place < length path → trace_of (word design run) place ≡ Some (letter-of design run place)
  letter-first design place within =
      in-stem design run place (omega (arith, within, ap (λ (stem : List (List Bool)). length stem) begins, length-append path rest))

letter-same : (design : Design) (path : List (List Bool)) (run : Run) → IsHeldRun design path run → (place : ℕ) → place < length path
    → trace_of (word design (along path)) place ≡ trace_of (word design run) place
letter-same design path run held place within =
    let whole : path ≡ path ++ [] = sym (append-nil path) in
    let here : (at : ℕ) → at < length path → valuation_at (along path) at ≡ valuation_at run at =
    λ at lt. at-first path [] (along path) whole at lt ∙ sym (at-first path held.rest run held.begins at lt) in
    letter-first path [] (along path) whole design place within
    ∙ ap (λ (l : Letter). Some l) (letter-alike design (along path) run place place (record {
      later = refl;
      now = bits-alike (along path) run place place (here place within);
      before = bits-alike (along path) run (place - 1) (place - 1) (here (place - 1) (omega (arith, within)));
    }))
    ∙ sym (letter-first path held.rest run held.begins design place within)

pub letters-first : (design : Design) (path : List (List Bool)) (run : Run) → IsHeldRun design path run
    → first (length path) (trace_of (word design (along path))) ≡ first (length path) (trace_of (word design run))
letters-first design path run held =
    first-same (length path) (trace_of (word design (along path))) (trace_of (word design run)) (letter-same design path run held)
