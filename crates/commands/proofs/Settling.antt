-- From where on verdicts are settled: readings, points within a recording, and lines.
use Rattle.std.proofs.Common.{◌≡◌, refl, sym, ◌∙◌, ap, ℕ, ◌≤◌, Bool, true, List, [], ◌∷◌, ◌++◌, length, map, get_or, Option, None, Some, Ok, Err, inl, inr, arith}
use Rattle.std.specs.Prelude.{All, IfSome, Result}
use Rattle.std.proofs.lemmas.List.{append_assoc, append-nil}
use Rattle.std.proofs.lemmas.List.Elements.{All-nil, All-cons}
use Rattle.std.proofs.lemmas.List.FromFn.{length-map-range_with_len}
use Rattle.psl_tree.specs.Trees.{Formula, formula_of}
use Rattle.psl_tree.specs.declared.directive.Directive.{Directive}
use Rattle.psl_tree.specs.declared.letter.Letter.{Letter}
use Rattle.vcd_reader.specs.Sampled.{Sampled, letter_at, letters_of}
use Rattle.wave_judge.specs.Levels.{level_of}
use Rattle.wave_judge.specs.Settled.{IsPointOf, ArePoints}
use Rattle.wave_judge.specs.declared.verdict.Level.{Level}
use Rattle.wave_judge.specs.declared.verdict.Level.TheVariants.{HoldsStrongly, Holds, Pending, Fails}
use Rattle.wave_judge.specs.declared.verdict.Verdict.{Verdict}
use Rattle.commands.specs.Faults.{of_none}
use Rattle.commands.specs.Settled.{AreSettled, settled_of}
use Rattle.commands.specs.Stages.{IsReading, TextFails}
use Rattle.commands.specs.Text.{settled_line, settled_lines, verdict_line}
use Rattle.commands.specs.Waves.{KnownReading, SettledReading}
use Rattle.commands.specs.declared.outcome.Fault.{Fault}
use Rattle.commands.specs.declared.outcome.Settled.{Settled}
use Rattle.commands.specs.declared.reason.Reason.TheVariants.{NoMemory}
use Rattle.vcd_reader.specs.declared.unknown.Unknown.{Unknown}

module _ (points : Bool) (unknown : Unknown) (unit name : List ℕ) (sampled : Sampled) (directives : List Directive) where
  abbrev names : List (List ℕ)
  names = unit ∷ name ∷ []

  -- no verdicts
  pub settled-verdicts : (fault : Fault) → IsReading (unit ∷ name ∷ []) (KnownReading unknown unit name sampled directives) (Err fault)
      → IsReading (unit ∷ name ∷ []) (SettledReading points unknown unit name sampled directives) (Err fault)
  settled-verdicts fault r = record { gives = tt; refuses = by r.refuses }
    where
      by : TextFails (unit ∷ name ∷ []) (λ f. KnownReading unknown unit name sampled directives (Err f)) fault
          → TextFails (unit ∷ name ∷ []) (λ f. SettledReading points unknown unit name sampled directives (Err f)) fault
      by (inl e) = inl e
      by (inr t) = inr record { cause = t.cause; file = t.file; refusal = inl (fault, t.refusal, refl) }

  -- verdicts, and from where on they are settled
  pub settled-reading : (verdicts : List Verdict) (settled : Option (List (Option Settled)))
      → IsReading (unit ∷ name ∷ []) (KnownReading unknown unit name sampled directives) (Ok verdicts) → AreSettled points sampled directives verdicts settled
      → IsReading (unit ∷ name ∷ []) (SettledReading points unknown unit name sampled directives) (Ok (record { verdicts = verdicts; settled = settled }))
  settled-reading verdicts settled r are = record { gives = inr (verdicts, r.gives, (settled, are, refl)); refuses = tt }

-- want of memory ends each reading
pub settled-memory : {A : Type 0} (names : List (List ℕ)) (Reading : Result A Fault → Type 0) (result : Result A Fault) → result ≡ Err (of_none NoMemory) → IsReading names Reading result
settled-memory names Reading result e = rw e (record { gives = tt; refuses = inl refl })

-- a point is one of the word's counts
point-within : (level : Level) (formula : Formula) (letters : List Letter) (point : Option ℕ) → IsPointOf level formula letters point → IfSome point (λ count. count ≤ length letters)
point-within level formula letters None is = tt
point-within Fails formula letters (Some count) is = is.within
point-within HoldsStrongly formula letters (Some count) is = is.within
point-within Holds formula letters (Some count) is = absurd is
point-within Pending formula letters (Some count) is = absurd is

module _ (r : Sampled) where
  length-letters : length (letters_of r) ≡ length r.samples
  length-letters = length-map-range_with_len (letter_at r) 0 (length r.samples)

  counted : (point : Option ℕ) → IfSome point (λ count. count ≤ length (letters_of r)) → IfSome point (λ count. count ≤ length r.samples)
  counted None h = tt
  counted (Some count) h = omega (arith, h, length-letters)

  pub points-within : (ds : List Directive) (vs : List Verdict) (ps : List (Option ℕ)) → ArePoints (letters_of r) ds vs ps
      → All (λ point. IfSome point (λ count. count ≤ length r.samples)) ps
  points-within [] [] [] are = All-nil (λ point. IfSome point (λ count. count ≤ length r.samples))
  points-within (d ∷ ds) (v ∷ vs) (p ∷ ps) are =
      All-cons (λ point. IfSome point (λ count. count ≤ length r.samples)) p ps
      (counted p (point-within (level_of v.weak v.neutral v.strong) (formula_of d.formula) (letters_of r) p are.0)) (points-within ds vs ps are.1)
  points-within [] [] (_ ∷ _) are = absurd are
  points-within [] (_ ∷ _) ps are = absurd are
  points-within (_ ∷ _) [] ps are = absurd are
  points-within (_ ∷ _) (_ ∷ _) [] are = absurd are

  pub are-settled : (ds : List Directive) (vs : List Verdict) (ps : List (Option ℕ)) (settled : List (Option Settled)) → ArePoints (letters_of r) ds vs ps → settled ≡ map (settled_of r) ps
      → AreSettled true r ds vs (Some settled)
  are-settled ds vs ps settled are e = (ps, are, ap Some e)

-- a line more: the verdict's, and where there is a place for it, from where on it is settled
pub line-more : (vs : List Verdict) (v : Verdict) (places : List (Option Settled))
    → settled_lines (vs ++ v ∷ []) places ≡ settled_lines vs places ++ (verdict_line v ++ settled_line (get_or places (length vs) None))
line-more [] v [] = refl
line-more [] v (place ∷ places) = append-nil (verdict_line v ++ settled_line place)
line-more (u ∷ vs) v [] =
    ap (λ (more : List ℕ). verdict_line u ++ more) (line-more vs v []) ∙ sym (append_assoc (verdict_line u) (settled_lines vs []) (verdict_line v ++ settled_line None))
line-more (u ∷ vs) v (place ∷ places) =
    ap (λ (more : List ℕ). verdict_line u ++ settled_line place ++ more) (line-more vs v places)
    ∙ sym (append_assoc (verdict_line u ++ settled_line place) (settled_lines vs places) (verdict_line v ++ settled_line (get_or places (length vs) None)))
