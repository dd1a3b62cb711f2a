-- What a word stands for stays where the run's loop is entered one valuation later. So where no run of some size violates
-- what is owed, no shorter one does.
use Rattle.std.proofs.Common.{◌≡◌, refl, ◌∙◌, ap, sym, subst, ℕ, zero, suc, ◌+◌, ◌-◌, ◌%◌, ◌<◌, ◌≤◌, Bool as Truth, not, List, [], ◌∷◌, ◌++◌, length, filter, slice_get, Some, None, inl, inr, arith, length-append}
use Rattle.std.specs.Prelude.{◌&&◌, nat_lt, if◌then◌else◌}
use Rattle.std.proofs.lemmas.Bool.{cases_lt, lt-ltb, le-ltb}
use Rattle.std.proofs.lemmas.List.FromFn.{get_or-map-range_with_len, length-map-range_with_len}
use Rattle.std.proofs.lemmas.Option.{slice_get-get_or}
use Rattle.std.proofs.Math.Nat.{mod-eq_of_lt, mod-lt, mod_self, suc-mod}
use Rattle.netlist.specs.Design.{Design}
use Rattle.netlist.specs.Runs.{bits_of, letters_from, valuation_at, word}
use Rattle.netlist.specs.Valuations.{bit}
use Rattle.netlist.specs.declared.run.Run.{Run}
use Rattle.psl_tree.specs.Satisfaction.{Sat}
use Rattle.psl_tree.specs.Trace.{Trace, for_ever, trace_of}
use Rattle.psl_tree.specs.Letters.{Bits, atoms_of, edge_at, letter_at}
use Rattle.psl_tree.specs.declared.atom.Atom.{Atom}
use Rattle.psl_tree.specs.declared.atom.Edge.{Edge}
use Rattle.psl_tree.specs.declared.atom.Edge.TheVariants.{Value, Rise, Fall}
use Rattle.psl_tree.specs.declared.directive.Directive.{Directive}
use Rattle.psl_tree.specs.declared.letter.Letter.{Letter}
use Rattle.psl_tree.specs.declared.letter.Letter.TheVariants.{Holds}
use Rattle.owed.specs.Owed.{owed}
use Rattle.bounded_theory.specs.Found.{run_size}
use Rattle.prover.proofs.Turning.{loop-again, run-with, size-turned, size-with, turned, turned-last, turned-run, turned-same}
use Rattle.prover.specs.Violating.{NoneBelow, Violates}
use mathlib.Core.Path.{fun_ext}

-- the values of two places, behind those of two others
pub record Alike (first : Bits) (here : ℕ) (second : Bits) (there : ℕ) : Type 0 where
  pub later : nat_lt 0 here ≡ nat_lt 0 there
  pub now : first here ≡ second there
  pub before : first (here - 1) ≡ second (there - 1)

edge-alike : (first second : Bits) (here there : ℕ) → Alike first here second there → (edge : Edge) (signal place : ℕ)
    → edge_at edge first here signal place ≡ edge_at edge second there signal place
edge-alike first second here there same Value signal place = ap (λ (f : ℕ → ℕ → Truth). f signal place) same.now
edge-alike first second here there same Rise signal place =
    ap (λ (late : Truth). late && (not (first (here - 1) signal place) && first here signal place)) same.later
    ∙ ap (λ (f : ℕ → ℕ → Truth). nat_lt 0 there && (not (f signal place) && first here signal place)) same.before
    ∙ ap (λ (f : ℕ → ℕ → Truth). nat_lt 0 there && (not (second (there - 1) signal place) && f signal place)) same.now
edge-alike first second here there same Fall signal place =
    ap (λ (late : Truth). late && (first (here - 1) signal place && not (first here signal place))) same.later
    ∙ ap (λ (f : ℕ → ℕ → Truth). nat_lt 0 there && (f signal place && not (first here signal place))) same.before
    ∙ ap (λ (f : ℕ → ℕ → Truth). nat_lt 0 there && (second (there - 1) signal place && not (f signal place))) same.now

pub letter-alike : (design : Design) (first second : Run) (here there : ℕ) → Alike (bits_of first) here (bits_of second) there
    → letter_at (bits_of first) design.names here ≡ letter_at (bits_of second) design.names there
letter-alike design first second here there same =
    ap (λ (test : Atom → Truth). Holds (filter test (atoms_of design.names)))
    (fun_ext (λ atom. edge-alike (bits_of first) (bits_of second) here there same atom.edge atom.signal atom.bit))

pub bits-alike : (first second : Run) (here there : ℕ) → valuation_at first here ≡ valuation_at second there
    → bits_of first here ≡ bits_of second there
bits-alike first second here there same =
    ap (λ (valuation : List Truth). λ (signal : ℕ) (_ : ℕ). bit valuation signal) same

-- where the walk comes along at a moment: on the stem, or in the loop
abbrev place-at : ℕ → ℕ → ℕ → ℕ
place-at stem looped moment = if nat_lt moment (suc stem) then moment else suc stem + (moment - suc stem) % looped

-- the letter of a place
abbrev pub letter-of : Design → Run → ℕ → Letter
letter-of design run place = letter_at (bits_of run) design.names place

got : (design : Design) (run : Run) (first count place : ℕ) → place < count
    → slice_get (letters_from design run first count) place ≡ Some (letter-of design run (first + place))
got design run first count place within =
    slice_get-get_or (letters_from design run first count) place (letter-of design run 0)
    (subst (λ (n : ℕ). place < n) (sym (length-map-range_with_len (letter-of design run) first count)) within)
    ∙ ap Some (get_or-map-range_with_len (letter-of design run) first count place (first + place) (letter-of design run 0) within refl)

pub in-stem : (design : Design) (run : Run) (moment : ℕ) → moment < suc (length run.stem)
    → trace_of (word design run) moment ≡ Some (letter-of design run moment)
in-stem design run moment within =
    let many = length-map-range_with_len (letter-of design run) 0 (suc (length run.stem)) in
    ap (λ (b : Truth). if b then slice_get (word design run).stem moment
    else for_ever (word design run).looped (moment - length (word design run).stem))
    (lt-ltb moment (length (word design run).stem) (omega (arith, many, within)))
    ∙ got design run 0 (suc (length run.stem)) moment within
    ∙ ap (λ place. Some (letter-of design run place)) (omega arith)

in-loop : (design : Design) (run : Run) (moment : ℕ) → 0 < length run.loop_part → suc (length run.stem) ≤ moment
    → trace_of (word design run) moment
    ≡ Some (letter-of design run (suc (length run.stem) + (moment - suc (length run.stem)) % length run.loop_part))
in-loop design run moment loops past =
    let many = length-map-range_with_len (letter-of design run) 0 (suc (length run.stem)) in
    let looped = length-map-range_with_len (letter-of design run) (suc (length run.stem)) (length run.loop_part) in
    ap (λ (b : Truth). if b then slice_get (word design run).stem moment
    else for_ever (word design run).looped (moment - length (word design run).stem))
    (le-ltb moment (length (word design run).stem) (omega (arith, many, past)))
    ∙ ap (λ (m : ℕ). for_ever (word design run).looped (moment - m)) many
    ∙ ap (λ (m : ℕ). slice_get (word design run).looped ((moment - suc (length run.stem)) % m)) looped
    ∙ got design run (suc (length run.stem)) (length run.loop_part) ((moment - suc (length run.stem)) % length run.loop_part)
    (mod-lt (moment - suc (length run.stem)) loops)

-- the letter of a place that stays
letter-same : (design : Design) (stem : List (List Truth)) (x : List Truth) (rest : List (List Truth)) (place : ℕ)
    → place < suc (size-with stem rest)
    → letter-of design (turned (run-with stem x rest)) place ≡ letter-of design (run-with stem x rest) place
letter-same design stem x rest place within =
    letter-alike design (turned (run-with stem x rest)) (run-with stem x rest) place place (record {
      later = refl;
      now = bits-alike (turned (run-with stem x rest)) (run-with stem x rest) place place (turned-same stem x rest place within);
      before = bits-alike (turned (run-with stem x rest)) (run-with stem x rest) (place - 1) (place - 1)
          (turned-same stem x rest (place - 1) (omega arith));
    })

one-before : (n : ℕ) → suc n - 1 ≡ n
one-before n = omega arith

-- the letter of the last place is that behind the one where the loop was entered
letter-last : (design : Design) (stem : List (List Truth)) (x : List Truth) (rest : List (List Truth))
    → letter-of design (turned (run-with stem x rest)) (suc (size-with stem rest))
    ≡ letter-of design (run-with stem x rest) (suc (length stem))
letter-last design stem x rest =
    letter-alike design (turned (run-with stem x rest)) (run-with stem x rest) (suc (size-with stem rest)) (suc (length stem)) (record {
      later = lt-ltb 0 (suc (size-with stem rest)) (omega arith) ∙ sym (lt-ltb 0 (suc (length stem)) (omega arith));
      now = bits-alike (turned (run-with stem x rest)) (run-with stem x rest) (suc (size-with stem rest)) (suc (length stem))
          (turned-last stem x rest);
      before = ap (bits_of (turned (run-with stem x rest))) (one-before (size-with stem rest))
          ∙ bits-alike (turned (run-with stem x rest)) (run-with stem x rest) (size-with stem rest) (length stem)
          (turned-same stem x rest (size-with stem rest) (omega arith) ∙ loop-again stem x rest)
          ∙ ap (bits_of (run-with stem x rest)) (sym (one-before (length stem)));
    })

turned-loop-length : (x : List Truth) (rest : List (List Truth)) → length (rest ++ x ∷ []) ≡ suc (length rest)
turned-loop-length x rest = omega (arith, length-append rest (x ∷ []))

turned-stem-length : (stem : List (List Truth)) (x : List Truth) → length (stem ++ x ∷ []) ≡ suc (length stem)
turned-stem-length stem x = omega (arith, length-append stem (x ∷ []))

-- in a loop of so many places, the one after that at a moment
next-mod : (moment looped : ℕ) → 0 < looped → suc (moment % looped) < looped → suc moment % looped ≡ suc (moment % looped)
next-mod moment looped loops less = suc-mod moment looped ∙ mod-eq_of_lt less

last-mod : (moment looped : ℕ) → 0 < looped → suc (moment % looped) ≡ looped → suc moment % looped ≡ 0
last-mod moment looped loops full = suc-mod moment looped ∙ ap (λ (n : ℕ). n % looped) full ∙ mod_self looped

-- a moment behind both stems
behind : (design : Design) (stem : List (List Truth)) (x : List Truth) (rest : List (List Truth)) (beyond : ℕ)
    → letter-of design (turned (run-with stem x rest)) (suc (suc (length stem)) + beyond % suc (length rest))
    ≡ letter-of design (run-with stem x rest) (suc (length stem) + suc beyond % suc (length rest))
behind design stem x rest beyond = elim (cases_lt (suc (beyond % suc (length rest))) (suc (length rest))) [
  | inl less ↦ letter-same design stem x rest (suc (suc (length stem)) + beyond % suc (length rest)) (omega (arith, less))
      ∙ ap (λ (place : ℕ). letter-of design (run-with stem x rest) place)
      (omega (arith, next-mod beyond (suc (length rest)) (omega arith) less))
  | inr full ↦
      let below = mod-lt beyond {m = suc (length rest)} (omega arith) in
      ap (λ (place : ℕ). letter-of design (turned (run-with stem x rest)) place) (omega (arith, full, below))
      ∙ letter-last design stem x rest
      ∙ ap (λ (place : ℕ). letter-of design (run-with stem x rest) place)
      (omega (arith, last-mod beyond (suc (length rest)) (omega arith) (omega (arith, full, below))))
]

-- the moment at which the second place of the loop comes first
entered : (stem rest moment : ℕ) → suc stem ≤ moment → moment < suc (suc stem) → moment ≡ suc stem + (moment - suc stem) % suc rest
entered stem rest moment late soon =
    let none : (moment - suc stem) % suc rest ≡ 0 = ap (λ (d : ℕ). d % suc rest) (omega (arith, late, soon)) ∙ mod-eq_of_lt (omega arith) in
    omega (arith, none, late, soon)

-- where its loop is entered later, the word stands for the same
turned-at : (design : Design) (stem : List (List Truth)) (x : List Truth) (rest : List (List Truth)) (moment : ℕ)
    → trace_of (word design (turned (run-with stem x rest))) moment ≡ trace_of (word design (run-with stem x rest)) moment
turned-at design stem x rest moment = elim (cases_lt moment (suc (length stem))) [
  | inl early ↦ in-stem design (turned (run-with stem x rest)) moment (omega (arith, early, turned-stem-length stem x))
      ∙ ap Some (letter-same design stem x rest moment (omega (arith, early)))
      ∙ sym (in-stem design (run-with stem x rest) moment early)
  | inr late ↦ elim (cases_lt moment (suc (suc (length stem)))) [
    | inl soon ↦ in-stem design (turned (run-with stem x rest)) moment (omega (arith, soon, turned-stem-length stem x))
        ∙ ap Some (letter-same design stem x rest moment (omega (arith, soon)))
        ∙ ap (λ (place : ℕ). Some (letter-of design (run-with stem x rest) place)) (entered (length stem) (length rest) moment late soon)
        ∙ sym (in-loop design (run-with stem x rest) moment (omega arith) late)
    | inr later ↦ in-loop design (turned (run-with stem x rest)) moment (omega (arith, turned-loop-length x rest))
        (omega (arith, later, turned-stem-length stem x))
        ∙ ap (λ (s : ℕ). Some (letter-of design (turned (run-with stem x rest)) (suc s + (moment - suc s) % length (rest ++ x ∷ []))))
        (turned-stem-length stem x)
        ∙ ap (λ (l : ℕ). Some (letter-of design (turned (run-with stem x rest)) (suc (suc (length stem)) + (moment - suc (suc (length stem))) % l)))
        (turned-loop-length x rest)
        ∙ ap Some (behind design stem x rest (moment - suc (suc (length stem))))
        ∙ ap (λ (d : ℕ). Some (letter-of design (run-with stem x rest) (suc (length stem) + d % suc (length rest)))) (omega (arith, later))
        ∙ sym (in-loop design (run-with stem x rest) moment (omega arith) late)
  ]
]

turned-by : (design : Design) (stem loop_part : List (List Truth)) → 0 < length loop_part
    → trace_of (word design (turned (record { stem = stem; loop_part = loop_part })))
    ≡ trace_of (word design (record { stem = stem; loop_part = loop_part }))
turned-by design stem [] loops = absurd (omega (arith, loops))
turned-by design stem (x ∷ rest) loops = fun_ext (turned-at design stem x rest)

turned-trace : (design : Design) (run : Run) → 0 < length run.loop_part → trace_of (word design (turned run)) ≡ trace_of (word design run)
turned-trace design run loops = turned-by design run.stem run.loop_part loops

turned-violates : (design : Design) (unit : List Directive) (d : Directive) (run : Run) → Violates design unit d run → Violates design unit d (turned run)
turned-violates design unit d run v = record {
  is = turned-run design run v.is;
  violates = subst (λ (t : Trace). Sat t (owed unit d) None → ⊥) (sym (turned-trace design run v.is.loops)) v.violates;
}

-- no run violates it that is shorter by so many valuations than one of which none does
none-shorter : (design : Design) (unit : List Directive) (d : Directive) (size : ℕ)
    → ((run : Run) → Violates design unit d run → run_size run ≡ size → ⊥)
    → (less : ℕ) (run : Run) → Violates design unit d run → run_size run + less ≡ size → ⊥
none-shorter design unit d size none zero run v is = none run v (omega (arith, is))
none-shorter design unit d size none (suc less) run v is =
    none-shorter design unit d size none less (turned run) (turned-violates design unit d run v)
    (omega (arith, is, size-turned run v.is.loops))

-- where no run of a size violates what is owed, no shorter one does
pub none-within : (design : Design) (unit : List Directive) (d : Directive) (size : ℕ)
    → ((run : Run) → Violates design unit d run → run_size run ≡ size → ⊥) → NoneBelow design unit d (suc size)
none-within design unit d size none run v = elim (cases_lt size (run_size run)) [
  | inl more ↦ more
  | inr few ↦ absurd (none-shorter design unit d size none (size - run_size run) run v (omega (arith, few)))
]
