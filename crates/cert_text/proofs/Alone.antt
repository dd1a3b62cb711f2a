-- A log without its drops passes where the log does, since more of its lemmas are live.
use Rattle.std.proofs.Common.{◌≡◌, ◌∙◌, sym, subst, ℕ, zero, suc, ◌-◌, ℤ, neg_ℤ, false, leb, List, [], ◌∷◌, ◌++◌, length, set, get_or, Option, Some, None, ◌⊎◌, inl, inr, refl}
use Rattle.std.proofs.lemmas.Bool.{cond_both}
use Rattle.std.proofs.lemmas.List.{append-nil}
use Rattle.std.proofs.lemmas.List.Elements.{All-filter, filter-append}
use Rattle.clauses.specs.Live.{Numbered, all_live, clause_of, without}
use Rattle.clauses.specs.Logs.{LogEntry, AllPass, EachLemma, LemmaPasses, after_all, clauses_after, is_empty_lemma, is_lemma}
use Rattle.clauses.specs.Logs.LogEntry.{Lemma, Forget}
use Rattle.clauses.specs.Passing.{Passes}
use Rattle.clause_text.specs.Lines.{lemmas_alone}
use Rattle.cert_text.specs.Evidence.{EachDrop}

-- each clause that is live among the first is so among the second, under the same number
abbrev Covers : Numbered ℤ → Numbered ℤ → Type 0
Covers [] [] = Unit {0}
Covers [] (more ∷ many) = ⊥
Covers (one ∷ few) [] = ⊥
Covers (one ∷ few) (more ∷ many) = ((one ≡ None) ⊎ (one ≡ more)) × Covers few many

covers-same : (clauses : Numbered ℤ) → Covers clauses clauses
covers-same [] = tt
covers-same (clause ∷ clauses) = (inr refl, covers-same clauses)

covers-push : (few many : Numbered ℤ) (literals : List ℤ) → Covers few many → Covers (few ++ Some literals ∷ []) (many ++ Some literals ∷ [])
covers-push [] [] literals covers = (inr refl, tt)
covers-push [] (more ∷ many) literals covers = absurd covers
covers-push (one ∷ few) [] literals covers = absurd covers
covers-push (one ∷ few) (more ∷ many) literals covers = (covers.0, covers-push few many literals covers.1)

covers-set : (few many : Numbered ℤ) (place : ℕ) → Covers few many → Covers (set few place None) many
covers-set [] [] place covers = tt
covers-set [] (more ∷ many) place covers = absurd covers
covers-set (one ∷ few) [] place covers = absurd covers
covers-set (one ∷ few) (more ∷ many) zero covers = (inl refl, covers.1)
covers-set (one ∷ few) (more ∷ many) (suc place) covers = (covers.0, covers-set few many place covers.1)

covers-without : (kept number : ℕ) (few many : Numbered ℤ) → Covers few many → Covers (without kept number few) many
covers-without kept number few many covers =
    cond_both (leb number kept) few (set few (number - 1) None) (λ clauses. Covers clauses many) (λ _. covers) (λ _. covers-set few many (number - 1) covers)

covers-after : (size : ℕ) (few many : Numbered ℤ) (log : List LogEntry) → Covers few many → Covers (after_all size few log) (after_all size many (lemmas_alone log))
covers-after size few many [] covers = covers
covers-after size few many (Lemma literals hints ∷ log) covers =
    covers-after size (few ++ Some literals ∷ []) (many ++ Some literals ∷ []) log (covers-push few many literals covers)
covers-after size few many (Forget number ∷ log) covers = covers-after size (without size number few) many log (covers-without size number few many covers)

-- a clause that is live
one_covered : (one more : Option (List ℤ)) (clause : List ℤ) → (one ≡ None) ⊎ (one ≡ more) → one ≡ Some clause → more ≡ Some clause
one_covered one more clause (inl none) is = cc
one_covered one more clause (inr same) is = sym same ∙ is

covered_at : (few many : Numbered ℤ) (place : ℕ) (clause : List ℤ) → Covers few many → get_or few place None ≡ Some clause → get_or many place None ≡ Some clause
covered_at [] [] place clause covers is = cc
covered_at [] (more ∷ many) place clause covers is = absurd covers
covered_at (one ∷ few) [] place clause covers is = absurd covers
covered_at (one ∷ few) (more ∷ many) zero clause covers is = one_covered one more clause covers.0 is
covered_at (one ∷ few) (more ∷ many) (suc place) clause covers is = covered_at few many place clause covers.1 is

covered : (few many : Numbered ℤ) (number : ℕ) (clause : List ℤ) → Covers few many → clause_of few number ≡ Some clause → clause_of many number ≡ Some clause
covered few many zero clause covers is = cc
covered few many (suc place) clause covers is = covered_at few many place clause covers is

-- a lemma that passes by some clauses passes by more
passes-more : (few many : Numbered ℤ) (literals : List ℤ) (hints : List ℕ) → Covers few many
    → Passes neg_ℤ (clause_of few) literals hints → Passes neg_ℤ (clause_of many) literals hints
passes-more few many literals [] covers passes = passes
passes-more few many literals (hint ∷ []) covers passes = (passes.0, covered few many hint passes.0 covers passes.1, passes.2)
passes-more few many literals (hint ∷ (next ∷ hints)) covers passes = (
  passes.0,
  passes.1,
  covered few many hint passes.0 covers passes.2,
  passes.3,
  passes-more few many (literals ++ neg_ℤ passes.1 ∷ []) (next ∷ hints) covers passes.4,
)

lemma_passes : (variables : ℕ) (formula : List (List ℤ)) (before : List LogEntry) (literals : List ℤ) (hints : List ℕ)
    → LemmaPasses variables formula before literals hints → LemmaPasses variables formula (lemmas_alone before) literals hints
lemma_passes variables formula before literals hints lemma = record {
  none_empty = All-filter is_lemma (λ entry. is_empty_lemma entry ≡ false) before lemma.none_empty;
  within = lemma.within;
  refuted = passes-more (clauses_after formula before) (clauses_after formula (lemmas_alone before)) literals hints
      (covers-after (length formula) (all_live formula) (all_live formula) before (covers-same (all_live formula))) lemma.refuted;
}

-- every lemma passes behind those in front of it alone
each_passes : (variables : ℕ) (formula : List (List ℤ)) (before log : List LogEntry) → EachLemma (LemmaPasses variables formula) before log
    → EachLemma (LemmaPasses variables formula) (lemmas_alone before) (lemmas_alone log)
each_passes variables formula before [] passes = tt
each_passes variables formula before (Lemma literals hints ∷ log) passes = (
  lemma_passes variables formula before literals hints passes.0,
  subst (λ (front : List LogEntry). EachLemma (LemmaPasses variables formula) front (lemmas_alone log)) (filter-append is_lemma before (Lemma literals hints ∷ []))
      (each_passes variables formula (before ++ Lemma literals hints ∷ []) log passes.1),
)
each_passes variables formula before (Forget number ∷ log) passes =
    subst (λ (front : List LogEntry). EachLemma (LemmaPasses variables formula) front (lemmas_alone log)) (filter-append is_lemma before (Forget number ∷ []) ∙ append-nil (lemmas_alone before))
    (each_passes variables formula (before ++ Forget number ∷ []) log passes)

pub alone_passes : (variables : ℕ) (formula : List (List ℤ)) (log : List LogEntry) → AllPass variables formula log → AllPass variables formula (lemmas_alone log)
alone_passes variables formula log passes = each_passes variables formula [] log passes

-- and nothing is dropped
pub alone_drops : (P : List LogEntry → ℕ → Type 0) (before log : List LogEntry) → EachDrop P before (lemmas_alone log)
alone_drops P before [] = tt
alone_drops P before (Lemma literals hints ∷ log) = alone_drops P (before ++ Lemma literals hints ∷ []) log
alone_drops P before (Forget number ∷ log) = alone_drops P before log
