-- What a step makes of the log.
use Rattle.std.proofs.Common.{◌≡◌, ◌≢◌, ℕ, ◌+◌, ◌-◌, ◌*◌, ◌<◌, ◌≤◌, ℤ, Bool, true, false, cond, ltb, leb, List, [], ◌∷◌, ◌++◌, length, map, take, drop, Option, Some, is_some, ◌⊎◌, inl, inr, refl, sym, ap, ◌∙◌, subst, arith}
use Rattle.std.specs.Bool.{IsTrue}
use Rattle.std.specs.Option.{option_map}
use Rattle.std.specs.List.{All, AllPairs, Contains, list_all, count_by}
use Rattle.std.proofs.lemmas.Bool.{cases_lt, and_from, le-leb, lt-ltb}
use Rattle.std.proofs.lemmas.List.{length-map, length_push, map_push, take-append-le, drop-append-le, take_all}
use Rattle.std.proofs.lemmas.List.Sums.{sum_by-append, sum_by-cons}
use Rattle.std.proofs.lemmas.List.Elements.{All-nil, All-cons, All-head, All-tail, All-take, All-weaker}
use Rattle.clauses.specs.Literals.{clause_within, clause_words}
use Rattle.clauses.specs.Live.{Numbered, clause_of}
use Rattle.clauses.specs.Passing.{Passes}
use Rattle.clauses.specs.Logs.{LogEntry, is_entry, is_number, is_lemma, is_empty_lemma, entry_words, log_words, lemmas, clauses_after, EachLemma, LemmaPasses, Refutes}
use Rattle.clauses.specs.Logs.LogEntry.{Lemma, Forget}
use Rattle.clauses.proofs.Lives.{after_all-push, each_lemma-push}
use Rattle.clause_store.specs.Stored.{place_words, stored_words}
use Rattle.cdcl_trail.specs.Literals.{opposite, signed}
use Rattle.cdcl_propagation.specs.State.{State, IsSettled}
use Rattle.cdcl_conflict_theory.specs.Trails.{Steps}
use Rattle.cdcl_conflict_theory.specs.Lemmas.{IsLearned, IsRefuted}
use Rattle.cdcl_conflict_theory.proofs.Members.{all_members}
use Rattle.cdcl.specs.Evidence.{IsGoodLemma, DropsLive, IsHalfLive, IsTidy, live_lemmas}
use Rattle.clauses.specs.declared.cnf.Cnf.{Cnf}
use Rattle.cdcl.specs.declared.solver.Solver.{Solver}
use Rattle.cdcl.specs.Answers.{IsSpent, IsFull, IsRefutation}
use Rattle.cdcl.specs.Solving.{IsLogged, IsReady, KeepsLog}
use Rattle.cdcl.specs.Stepping.{IsEnding}
use Rattle.cdcl.specs.Turns.{steps_at, CanAttach}
use Rattle.cdcl.proofs.Members.{few_members, few_below, all_literals, length_all, stands_in, number_within}
use Rattle.cdcl.proofs.Loading.{size_few}
use Rattle.cdcl.proofs.Logging.{AreWithin, good_lemma, lemma_within, none_empty, passes_signed, within_signed}

abbrev as_number : Bool → ℕ
as_number b = cond b 1 0

-- sums over one more
pub lemmas_push : (log : List LogEntry) (entry : LogEntry) → lemmas (log ++ entry ∷ []) ≡ lemmas log + as_number (is_lemma entry)
lemmas_push log entry =
    omega (arith, sum_by-append (λ (e : LogEntry). as_number (is_lemma e)) log (entry ∷ []), sum_by-cons (λ (e : LogEntry). as_number (is_lemma e)) entry [])

pub words_push : (log : List LogEntry) (entry : LogEntry) → log_words (log ++ entry ∷ []) ≡ log_words log + entry_words entry
words_push log entry = omega (arith, sum_by-append entry_words log (entry ∷ []), sum_by-cons entry_words entry [])

stored_push : (clauses : Numbered ℕ) (clause : Option (List ℕ)) → stored_words (clauses ++ clause ∷ []) ≡ stored_words clauses + place_words clause
stored_push clauses clause = omega (arith, sum_by-append place_words clauses (clause ∷ []), sum_by-cons place_words clause [])

abbrev sum_by_some : Numbered ℤ → ℕ
sum_by_some clauses = count_by (λ clause. is_some clause) clauses

count_push : (clauses : Numbered ℤ) (clause : Option (List ℤ)) →
    sum_by_some (clauses ++ clause ∷ []) ≡ sum_by_some clauses + as_number (is_some clause)
count_push clauses clause =
    omega (arith, sum_by-append (λ (c : Option (List ℤ)). as_number (is_some c)) clauses (clause ∷ []), sum_by-cons (λ (c : Option (List ℤ)). as_number (is_some c)) clause [])

-- a lemma more
drops_push : (formula : List (List ℤ)) (before log : List LogEntry) (literals : List ℤ) (hints : List ℕ) → DropsLive formula before log → DropsLive formula before (log ++ Lemma literals hints ∷ [])
drops_push formula before [] literals hints each = tt
drops_push formula before (Lemma ls hs ∷ log) literals hints each = drops_push formula (before ++ Lemma ls hs ∷ []) log literals hints each
drops_push formula before (Forget n ∷ log) literals hints each = (each.0, drops_push formula (before ++ Forget n ∷ []) log literals hints each.1)

live_push : (formula : List (List ℤ)) (log : List LogEntry) (literals : List ℤ) (hints : List ℕ) → length formula ≤ length (clauses_after formula log)
    → live_lemmas formula (log ++ Lemma literals hints ∷ []) ≡ live_lemmas formula log + 1
live_push formula log literals hints size =
    let after = clauses_after formula log in
    let is : clauses_after formula (log ++ Lemma literals hints ∷ []) ≡ after ++ Some literals ∷ [] = after_all-push (length formula) (map (λ clause. Some clause) formula) log (Lemma literals hints) in
    rw (is, drop-append-le (length formula) after (Some literals ∷ []) size) (count_push (drop (length formula) after) (Some literals))

whole : (log : List LogEntry) → take (length log) log ≡ log
whole log = take_all (length log) log (omega arith)

pub half_push : (formula : List (List ℤ)) (log : List LogEntry) (literals : List ℤ) (hints : List ℕ) → length formula ≤ length (clauses_after formula log)
    → IsHalfLive formula log → IsHalfLive formula (log ++ Lemma literals hints ∷ [])
half_push formula log literals hints size half count =
    let more = log ++ Lemma literals hints ∷ [] in
    elim (cases_lt (length log) count) [
      | inl past ↦
          let all : take count more ≡ more = take_all count more (omega (arith, length_push log (Lemma literals hints))) in
          let before : lemmas log ≤ 2 * live_lemmas formula log = subst (λ (l : List LogEntry). lemmas l ≤ 2 * live_lemmas formula l) (whole log) (half (length log)) in
          rw all (omega (arith, before, lemmas_push log (Lemma literals hints), live_push formula log literals hints size))
      | inr within ↦ rw (take-append-le count log (Lemma literals hints ∷ []) within) (half count)
    ]

size_after : (variables : ℕ) (formula : List (List ℤ)) (clauses : Numbered ℕ) (log : List LogEntry) → IsLogged variables formula clauses log → length formula ≤ length (clauses_after formula log)
size_after variables formula clauses log logged =
    omega (arith, logged.numbers, length-map clauses (option_map (map signed)), ap length logged.clauses_are)

pub logged_push : (variables : ℕ) (formula : List (List ℤ)) (clauses : Numbered ℕ) (log : List LogEntry) (steps : Steps) (literals hints : List ℕ) → IsLogged variables formula clauses log
    → AreWithin variables clauses → IsLearned clauses steps literals hints
    → IsLogged variables formula (clauses ++ Some literals ∷ []) (log ++ Lemma (map signed literals) hints ∷ [])
logged_push variables formula clauses log steps literals hints logged within is =
    let entry = Lemma (map signed literals) hints in
    record {
      clauses_are =
          map_push (option_map (map signed)) clauses (Some literals)
          ∙ ap (λ (cs : Numbered ℤ). cs ++ Some (map signed literals) ∷ []) logged.clauses_are
          ∙ sym (after_all-push (length formula) (map (λ clause. Some clause) formula) log entry);
      good = each_lemma-push (IsGoodLemma variables formula) [] log (map signed literals) hints logged.good (good_lemma variables formula clauses log steps literals hints logged within is);
      drops_live = drops_push formula [] log (map signed literals) hints logged.drops_live;
      half_live = half_push formula log (map signed literals) hints (size_after variables formula clauses log logged) logged.half_live;
      numbers = omega (arith, logged.numbers, length_push clauses (Some literals), lemmas_push log entry);
      words = omega (arith, logged.words, stored_push clauses (Some literals), length_push clauses (Some literals), words_push log entry, length-map literals signed);
    }

-- a lemma that was learned, or the empty one
abbrev pub IsOutcome : Numbered ℕ → Steps → List ℕ → List ℕ → Type 0
IsOutcome clauses steps literals hints = IsLearned clauses steps literals hints ⊎ IsRefuted clauses literals hints

pub outcome : (limits : List ℕ) (clauses : Numbered ℕ) (steps : Steps) (literals hints : List ℕ) → (0 < length limits → IsLearned clauses steps literals hints)
    → (limits ≡ [] → IsRefuted clauses literals hints) → IsOutcome clauses steps literals hints
outcome [] clauses steps literals hints learned refuted = inr (refuted refl)
outcome (limit ∷ limits) clauses steps literals hints learned refuted = inl (learned (omega arith))

passes_by : (clauses : Numbered ℕ) (steps : Steps) (literals hints : List ℕ) → IsOutcome clauses steps literals hints → Passes opposite (clause_of clauses) literals hints
passes_by clauses steps literals hints (inl learned) = learned.passes
passes_by clauses steps literals hints (inr refuted) = refuted.passes

once_by : (clauses : Numbered ℕ) (steps : Steps) (literals hints : List ℕ) → IsOutcome clauses steps literals hints → AllPairs (λ hint other. hint ≢ other) hints
once_by clauses steps literals hints (inl learned) = learned.hints_once
once_by clauses steps literals hints (inr refuted) = refuted.hints_once

-- each hint names a live clause
pub hints_live : (clauses : Numbered ℕ) (set hints : List ℕ) → Passes opposite (clause_of clauses) set hints → All (λ hint. (0 < hint) × (hint ≤ length clauses)) hints
hints_live clauses set [] passes = absurd passes
hints_live clauses set (hint ∷ []) passes =
    All-cons (λ h. (0 < h) × (h ≤ length clauses)) hint [] (number_within clauses hint passes.0 passes.1) (All-nil (λ h. (0 < h) × (h ≤ length clauses)))
hints_live clauses set (hint ∷ (next ∷ hints)) passes =
    All-cons (λ h. (0 < h) × (h ≤ length clauses)) hint (next ∷ hints) (number_within clauses hint passes.0 passes.2)
    (hints_live clauses (set ++ opposite passes.1 ∷ []) (next ∷ hints) passes.4)

pub hints_few : (clauses : Numbered ℕ) (hints : List ℕ) → All (λ hint. (0 < hint) × (hint ≤ length clauses)) hints → AllPairs (λ hint other. hint ≢ other) hints → length hints ≤ length clauses + 1
hints_few clauses hints live once =
    few_below hints (length clauses + 1) once (All-weaker (λ h. (0 < h) × (h ≤ length clauses)) (λ h. h < length clauses + 1) (λ h both. omega (arith, both.1)) hints live)

literals_few : (clauses : Numbered ℕ) (steps : Steps) (literals hints : List ℕ) → IsOutcome clauses steps literals hints → length literals ≤ stored_words clauses
literals_few clauses steps literals hints (inl learned) =
    let within : All (Contains (all_literals clauses)) literals = all_members (Contains (all_literals clauses)) literals (λ literal there.
    let found = learned.stands literal there in
    stands_in clauses found.0 found.1 literal found.3 found.4) in
    omega (arith, few_members literals (all_literals clauses) learned.literals_once within, length_all clauses)
literals_few clauses steps literals hints (inr refuted) = omega (arith, ap length refuted.empty)

-- the numbers and words that a log may have
pub literals_fit : (variables : ℕ) (clauses : Numbered ℕ) (steps : Steps) (literals hints : List ℕ) → variables ≤ 2147483647 → AreWithin variables clauses
    → IsOutcome clauses steps literals hints → All (λ literal. literal < 2 * 2147483647) literals
literals_fit variables clauses steps literals hints few within (inl learned) =
    All-weaker (λ l. l < 2 * variables) (λ l. l < 2 * 2147483647) (λ l below. omega arith) literals (lemma_within variables clauses steps literals hints within learned)
literals_fit variables clauses steps literals hints few within (inr refuted) = rw refuted.empty (All-nil (λ l. l < 2 * 2147483647))

pub hints_fit : (variables : ℕ) (formula : List (List ℤ)) (clauses : Numbered ℕ) (log : List LogEntry) (steps : Steps) (literals hints : List ℕ) → IsLogged variables formula clauses log
    → clause_words formula ≤ 400000000 → log_words log ≤ 100000000 → IsOutcome clauses steps literals hints → All (λ hint. (0 < hint) × (hint ≤ 2147483647)) hints
hints_fit variables formula clauses log steps literals hints logged small few is =
    All-weaker (λ h. (0 < h) × (h ≤ length clauses)) (λ h. (0 < h) × (h ≤ 2147483647)) (λ h both. (both.0, omega (arith, both.1, logged.words)))
    hints (hints_live clauses literals hints (passes_by clauses steps literals hints is))

pub words_fit : (variables : ℕ) (formula : List (List ℤ)) (clauses : Numbered ℕ) (log : List LogEntry) (steps : Steps) (literals hints : List ℕ) → IsLogged variables formula clauses log
    → clause_words formula ≤ 400000000 → log_words log ≤ 100000000 → IsOutcome clauses steps literals hints
    → log_words log + (length literals + length hints + 2) ≤ 1000000000
words_fit variables formula clauses log steps literals hints logged small few is =
    let live = hints_live clauses literals hints (passes_by clauses steps literals hints is) in
    omega (arith, logged.words, literals_few clauses steps literals hints is, hints_few clauses hints live (once_by clauses steps literals hints is))

-- the entry is one
pub numbers_fit : (hints : List ℕ) → All (λ hint. (0 < hint) × (hint ≤ 2147483647)) hints → list_all is_number hints ≡ true
numbers_fit [] all = refl
numbers_fit (hint ∷ hints) all =
    let first = All-head (λ h. (0 < h) × (h ≤ 2147483647)) hint hints all in
    and_from (is_number hint) (list_all is_number hints)
    (and_from (ltb 0 hint) (leb hint 2147483647) (lt-ltb 0 hint first.0) (le-leb hint 2147483647 first.1))
    (numbers_fit hints (All-tail (λ h. (0 < h) × (h ≤ 2147483647)) hint hints all))

pub entry_fits : (literals hints : List ℕ) → All (λ literal. literal < 2 * 2147483647) literals → All (λ hint. (0 < hint) × (hint ≤ 2147483647)) hints → IsTrue (is_entry (Lemma (map signed literals) hints))
entry_fits literals hints within all = and_from (clause_within 2147483647 (map signed literals)) (list_all is_number hints) (within_signed 2147483647 literals within) (numbers_fit hints all)

-- what holds of every log
pub tidy_of : (variables : ℕ) (formula : List (List ℤ)) (clauses : Numbered ℕ) (log : List LogEntry) → IsLogged variables formula clauses log → IsTidy formula log
tidy_of variables formula clauses log logged = record {
  drops_live = logged.drops_live;
  half_live = logged.half_live;
  empty_last = All-take (λ entry. is_empty_lemma entry ≡ false) (length log - 1) log (none_empty variables formula log logged.good);
}

-- the last entry apart
pub before_last : (log : List LogEntry) (entry : LogEntry) → take (length (log ++ entry ∷ []) - 1) (log ++ entry ∷ []) ≡ log
before_last log entry =
    let size : length (log ++ entry ∷ []) - 1 ≡ length log = omega (arith, length_push log entry) in
    rw (size, take-append-le (length log) log (entry ∷ []) (omega arith)) (whole log)

pub tidy_end : (variables : ℕ) (formula : List (List ℤ)) (clauses : Numbered ℕ) (log : List LogEntry) (hints : List ℕ) → IsLogged variables formula clauses log → IsTidy formula (log ++ Lemma [] hints ∷ [])
tidy_end variables formula clauses log hints logged = record {
  drops_live = drops_push formula [] log [] hints logged.drops_live;
  half_live = half_push formula log [] hints (size_after variables formula clauses log logged) logged.half_live;
  empty_last = rw (before_last log (Lemma [] hints)) (none_empty variables formula log logged.good);
}

each_passes : (variables : ℕ) (formula : List (List ℤ)) (before log : List LogEntry) → EachLemma (IsGoodLemma variables formula) before log → EachLemma (LemmaPasses variables formula) before log
each_passes variables formula before [] each = tt
each_passes variables formula before (Lemma ls hs ∷ log) each = (each.0.passes, each_passes variables formula (before ++ Lemma ls hs ∷ []) log each.1)
each_passes variables formula before (Forget n ∷ log) each = each_passes variables formula (before ++ Forget n ∷ []) log each

pub refutes_end : (variables : ℕ) (formula : List (List ℤ)) (clauses : Numbered ℕ) (log : List LogEntry) (literals hints : List ℕ) → IsLogged variables formula clauses log → IsRefuted clauses literals hints
    → Refutes variables formula (log ++ Lemma [] hints ∷ [])
refutes_end variables formula clauses log literals hints logged refuted =
    let passes : Passes opposite (clause_of clauses) [] hints = rw refuted.empty at refuted.passes in
    record {
      all_pass = each_lemma-push (LemmaPasses variables formula) [] log [] hints (each_passes variables formula [] log logged.good)
          (passes_signed variables formula clauses log [] hints logged (All-nil (λ literal. literal < 2 * variables)) passes);
      before = log;
      hints = hints;
      behind = [];
      is = refl;
      last = All-nil (λ entry. is_lemma entry ≡ false);
    }

-- each lemma has two words
entry_two : (entry : LogEntry) → 2 * as_number (is_lemma entry) ≤ entry_words entry
entry_two (Lemma literals hints) = omega arith
entry_two (Forget number) = omega arith

two_words : (log : List LogEntry) → 2 * lemmas log ≤ log_words log
two_words [] = omega arith
two_words (entry ∷ log) =
    omega (arith, sum_by-cons (λ (e : LogEntry). as_number (is_lemma e)) entry log, sum_by-cons entry_words entry log, two_words log, entry_two entry)

pub end_fits : (variables : ℕ) (formula : List (List ℤ)) (clauses : Numbered ℕ) (log : List LogEntry) (literals hints : List ℕ) → IsLogged variables formula clauses log → IsRefuted clauses literals hints
    → clause_words formula ≤ 400000000 → log_words log ≤ 100000000 → clause_words formula + log_words (log ++ Lemma [] hints ∷ []) ≤ 1000000000
end_fits variables formula clauses log literals hints logged refuted small few =
    let live = hints_live clauses literals hints refuted.passes in
    omega (arith, logged.numbers, words_push log (Lemma [] hints), hints_few clauses hints live refuted.hints_once, size_few formula, two_words log)

-- a lemma can be added to the clauses
pub attach_fits : (variables : ℕ) (formula : List (List ℤ)) (state : State) (log : List LogEntry) (literals hints : List ℕ) → IsLogged variables formula state.clauses log
    → clause_words formula ≤ 400000000 → log_words log ≤ 100000000 → IsSettled state → 0 < length state.path.limits → IsLearned state.clauses (steps_at state.path) literals hints
    → CanAttach state literals
attach_fits variables formula state log literals hints logged small few settled levels learned =
    let fewer = literals_few state.clauses (steps_at state.path) literals hints (inl learned) in
    record {
      settled = settled;
      asserting = learned.asserting;
      levels = levels;
      within = lemma_within state.path.variables state.clauses (steps_at state.path) literals hints settled.within learned;
      words = omega (arith, fewer, logged.words);
      numbers = omega (arith, logged.words);
    }

-- the answers where the formula stays undecided
pub spent_of : (cnf : Cnf) (steps : ℕ) (clauses : Numbered ℕ) (log : List LogEntry) → IsLogged cnf.variables cnf.clauses clauses log → lemmas log ≡ steps → log_words log ≤ 100000000 → IsSpent cnf steps log
spent_of cnf steps clauses log logged count few = record {
  count = count;
  words = few;
  good = logged.good;
  tidy = tidy_of cnf.variables cnf.clauses clauses log logged;
}

pub full_of : (cnf : Cnf) (steps : ℕ) (clauses : Numbered ℕ) (before : List LogEntry) (literals : List ℤ) (hints : List ℕ) → lemmas before < steps → log_words before ≤ 100000000
    → IsLogged cnf.variables cnf.clauses clauses (before ++ Lemma literals hints ∷ []) → 100000000 < log_words (before ++ Lemma literals hints ∷ []) → IsFull cnf steps (before ++ Lemma literals hints ∷ [])
full_of cnf steps clauses before literals hints fewer few logged past =
    let entry = Lemma literals hints in
    record {
      few = omega (arith, fewer, lemmas_push before entry);
      words = past;
      before = rw (before_last before entry) few;
      good = logged.good;
      tidy = tidy_of cnf.variables cnf.clauses clauses (before ++ entry ∷ []) logged;
    }

pub refutation_of : (cnf : Cnf) (steps : ℕ) (old new : Solver) → new.formula.now ≡ cnf → lemmas old.log < steps → IsEnding old new → IsRefutation cnf steps new.log
refutation_of cnf steps old new same fewer ending =
    let P : Cnf → Type 0 = λ f. IsRefutation f steps new.log in
    subst P same record {
      refutes = ending.refutes;
      words = ending.words;
      few = omega (arith, ap lemmas ending.log, lemmas_push old.log (Lemma [] ending.hints), fewer);
      tidy = ending.tidy;
    }

-- propagation and decisions keep what is needed
pub ready_kept : (old new : Solver) → KeepsLog old new → IsReady old → IsReady new
ready_kept old new keeps ready =
    let formula = ap (λ f. f.now) keeps.formula in
    record {
      variables = keeps.variables ∙ ready.variables ∙ sym (ap (λ (f : Cnf). f.variables) formula);
      room = keeps.analyzer ∙ ready.room ∙ sym (ap (λ (f : Cnf). f.variables) formula);
      logged = rw (formula, keeps.clauses, keeps.log) ready.logged;
    }
