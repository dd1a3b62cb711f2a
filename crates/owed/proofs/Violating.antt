-- The automaton of the violations accepts the word of a run exactly where it does not satisfy what is owed.
use Rattle.std.proofs.Common.{◌≡◌, refl, ap, subst, sym, ◌↔◌, ◌<◌, ℕ, zero, suc, nat_lt, ◌-◌, ◌%◌, Bool as Truth, true, false, if◌then◌else◌, List, [], ◌∷◌, map, length, slice_get, Option, None, Some, ◌∙◌}
use mathlib.Core.Path.{fun_ext}
use Rattle.std.proofs.lemmas.List.{length-map}
use Rattle.std.proofs.lemmas.List.FromFn.{length-range_with_len}
use Rattle.std.specs.List.{range_with_len}
use Rattle.alternating_theory.proofs.LoopLawsHold.{loops}
use Rattle.alternating_theory.specs.Acceptance.{Accepts}
use Rattle.alternating_theory.specs.LoopLaws.{LoopsOf}
use Rattle.alternating_theory.proofs.Negations.{opposite_built}
use Rattle.alternating_theory.specs.Obligations.{Automaton}
use Rattle.clock_rewrite.proofs.Clockless.{plain_plain}
use Rattle.clock_rewrite.proofs.Meaning.{plain_words}
use Rattle.clock_rewrite.proofs.Stable.{stable}
use Rattle.netlist.specs.Design.{Design}
use Rattle.netlist.specs.Runs.{bits_of, letters_from, word}
use Rattle.netlist.specs.declared.run.Run.{Run}
use Rattle.psl_tree.proofs.Choice.{iff-trans}
use Rattle.psl_tree.specs.Satisfaction.{Sat}
use Rattle.psl_tree.specs.Trace.{Trace, trace_of, for_ever, dual, dual_at, dual_letter}
use Rattle.psl_tree.specs.Letters.{letter_at}
use Rattle.psl_tree.specs.Trees.{Not}
use Rattle.psl_tree.specs.declared.directive.Directive.{Directive}
use Rattle.psl_tree.specs.declared.letter.Letter.{Letter}
use Rattle.owed.specs.Owed.{owed, plain_owed}
use Rattle.owed.specs.Violations.{violation_of, AcceptsViolations, AcceptsViolatingRuns}

pub violations-loops : (unit : List Directive) (d : Directive) → AcceptsViolations (violation_of unit d) unit d
violations-loops unit d word l =
    let is : LoopsOf (violation_of unit d) (Not (plain_owed unit d)) =
    subst (λ (a : Automaton). LoopsOf a (Not (plain_owed unit d))) (sym (opposite_built (plain_owed unit d) (plain_plain (owed unit d) None)))
    (loops (Not (plain_owed unit d)) (plain_plain (owed unit d) None)) in
    iff-trans (is.on_loop word l) (plain_words (Not (owed unit d)) None word)

-- letters of a run are neither Top nor Bottom
same-letters : (f : ℕ → Letter) → ((i : ℕ) → dual_letter (f i) ≡ f i) → (xs : List ℕ) (k : ℕ)
    → dual_at (slice_get (map f xs) k) ≡ slice_get (map f xs) k
same-letters f h [] k = refl
same-letters f h (x ∷ xs) zero = ap Some (h x)
same-letters f h (x ∷ xs) (suc k) = same-letters f h xs k

same-chosen : (t : Truth) (a b : Option Letter) → dual_at a ≡ a → dual_at b ≡ b
    → dual_at (if t then a else b) ≡ (if t then a else b)
same-chosen true a b h k = h
same-chosen false a b h k = k

pub dual-run : (design : Design) (run : Run) → dual (trace_of (word design run)) ≡ trace_of (word design run)
dual-run design run = fun_ext (λ k.
    same-chosen (nat_lt k (length (letters_from design run 0 (suc (length run.stem)))))
    (slice_get (letters_from design run 0 (suc (length run.stem))) k)
    (for_ever (letters_from design run (suc (length run.stem)) (length run.loop_part)) (k - length (letters_from design run 0 (suc (length run.stem)))))
    (same-letters (letter_at (bits_of run) design.names) (λ i. refl) (range_with_len 0 (suc (length run.stem))) k)
    (same-letters (letter_at (bits_of run) design.names) (λ i. refl) (range_with_len (suc (length run.stem)) (length run.loop_part))
    ((k - length (letters_from design run 0 (suc (length run.stem)))) % length (letters_from design run (suc (length run.stem)) (length run.loop_part)))))

letters-count : (design : Design) (run : Run) (first count : ℕ) → length (letters_from design run first count) ≡ count
letters-count design run first count =
    length-map (range_with_len first count) (letter_at (bits_of run) design.names) ∙ length-range_with_len first count

pub violating-runs : (design : Design) (unit : List Directive) (d : Directive) → AcceptsViolatingRuns design unit d
violating-runs design unit d run l =
    let looped : 0 < length (letters_from design run (suc (length run.stem)) (length run.loop_part)) =
    subst (λ (n : ℕ). 0 < n) (sym (letters-count design run (suc (length run.stem)) (length run.loop_part))) l in
    let is : Accepts (violation_of unit d) (word design run) ↔ (Sat (trace_of (word design run)) (owed unit d) None → ⊥) =
    subst (λ (w : Trace). Accepts (violation_of unit d) (word design run) ↔ (Sat w (owed unit d) None → ⊥)) (dual-run design run)
    (violations-loops unit d (word design run) looped) in
    record {
      accepts = is;
      satisfied = λ n. stable (owed unit d) None (trace_of (word design run)) (λ k. n (is.1 k));
    }
