-- How far the check of a log has come.
use Rattle.std.proofs.Common.{◌≡◌, ℕ, zero, suc, ◌+◌, ◌-◌, ◌*◌, ◌<◌, ◌≤◌, ℤ, Bool, true, false, cond, leb, ◌||◌, List, [], ◌∷◌, ◌++◌, length, set, Some, None, refl, sym, ap, ◌∙◌, subst, ◌⊎◌, inl, inr, arith, append_assoc, length-set}
use Rattle.std.specs.List.{All, Contains}
use Rattle.std.proofs.lemmas.Bool.{leb-false, false≢true, true≢false}
use Rattle.std.proofs.lemmas.List.{append-nil, set-append_right, length-map, length_push}
use Rattle.std.proofs.lemmas.List.Sums.{sum_by-cons, sum_by-append}
use Rattle.std.proofs.lemmas.List.Elements.{All-push, All-nil, All-contains, Contains-append_right}
use Rattle.clauses.specs.Live.{Numbered, all_live, without}
use Rattle.clauses.specs.Logs.{LogEntry, is_lemma, is_empty_lemma, entry_words, log_words, lemmas, clauses_after, LemmaPasses, AllPass, FailsAt, Refutes, ShowsNothing}
use Rattle.clauses.specs.Logs.LogEntry.{Lemma, Forget}
use Rattle.clauses.proofs.Lives.{after_all-push, each_lemma-push, each_lemma-push_drop}
use Rattle.clause_log.specs.Checking.{Checking, PassesNow, with_lemma, lemma_literals, live_literals}
use Rattle.clauses.proofs.Soundness.{no_model}
use Rattle.clauses.specs.Models.{Assignment, IsModel}
use Rattle.clauses.specs.declared.cnf.Cnf.{Cnf}
use Rattle.clause_log.specs.declared.answer.LogAnswer.{LogAnswer}
use Rattle.clause_log.specs.declared.answer.LogAnswer.TheVariants as answers
use Rattle.clause_log.specs.Checked.{after_drop, GoesOn, IsAnswer}

-- the state of a checker with no limit to be met
abbrev pub state_at : ℕ → List (List ℤ) → Numbered ℤ → Checking
state_at variables formula live = record { variables = variables; formula = formula; limit = 4294967295; lemmas = live }

-- the last lemma is empty, or none is
abbrev pub Ended : Bool → List LogEntry → Type 0
Ended true taken =
    (before : List LogEntry) × (hints : List ℕ) × (behind : List LogEntry)
    × (taken ≡ before ++ Lemma [] hints ∷ behind) × All (λ entry. is_lemma entry ≡ false) behind
Ended false taken = All (λ entry. is_empty_lemma entry ≡ false) taken

-- some entries of a log were taken and passed, and the others are left
pub record Progress (variables : ℕ) (formula : List (List ℤ)) (log left : List LogEntry) (live : Numbered ℤ) (lemma : ℕ) (ended : Bool) : Type 0 where
  pub taken : List LogEntry
  pub is : log ≡ taken ++ left
  pub passed : AllPass variables formula taken
  pub clauses : all_live formula ++ live ≡ clauses_after formula taken
  pub count : lemma ≡ lemmas taken
  pub size : length live ≡ lemma
  pub literals : live_literals live ≤ log_words taken
  pub end : Ended ended taken

-- nothing was taken
pub nothing_taken : (variables : ℕ) (formula : List (List ℤ)) (log : List LogEntry) → Progress variables formula log log [] 0 false
nothing_taken variables formula log = record {
  taken = [];
  is = refl;
  passed = tt;
  clauses = append-nil (all_live formula);
  count = refl;
  size = refl;
  literals = omega arith;
  end = All-nil (λ entry. is_empty_lemma entry ≡ false);
}

abbrev as_number : Bool → ℕ
as_number b = cond b 1 0

-- sums over one more
lemmas_push : (taken : List LogEntry) (entry : LogEntry) → lemmas (taken ++ entry ∷ []) ≡ lemmas taken + as_number (is_lemma entry)
lemmas_push taken entry =
    omega (arith, sum_by-append (λ (e : LogEntry). as_number (is_lemma e)) taken (entry ∷ []), sum_by-cons (λ (e : LogEntry). as_number (is_lemma e)) entry [])

words_push : (taken : List LogEntry) (entry : LogEntry) → log_words (taken ++ entry ∷ []) ≡ log_words taken + entry_words entry
words_push taken entry = omega (arith, sum_by-append entry_words taken (entry ∷ []), sum_by-cons entry_words entry [])

pub literals_push : (live : Numbered ℤ) (new : List ℤ) → live_literals (live ++ Some new ∷ []) ≡ live_literals live + length new
literals_push live new = omega (arith, sum_by-append lemma_literals live (Some new ∷ []), sum_by-cons lemma_literals (Some new) [])

pub literals_set : (live : Numbered ℤ) (gone : ℕ) → live_literals (set live gone None) ≤ live_literals live
literals_set [] gone = omega arith
literals_set (first ∷ live) zero = omega (arith, sum_by-cons lemma_literals None live, sum_by-cons lemma_literals first live)
literals_set (first ∷ live) (suc gone) =
    omega (arith, sum_by-cons lemma_literals first (set live gone None), sum_by-cons lemma_literals first live, literals_set live gone)

-- a lemma passes by the clauses that are live
lemma_passes : (variables : ℕ) (formula : List (List ℤ)) (taken : List LogEntry) (live : Numbered ℤ) (literals : List ℤ) (hints : List ℕ) →
    all_live formula ++ live ≡ clauses_after formula taken → Ended false taken → PassesNow (state_at variables formula live) literals hints →
    LemmaPasses variables formula taken literals hints
lemma_passes variables formula taken live literals hints same none passes = record {
  none_empty = none;
  within = passes.within;
  refuted = rw same at passes.refuted;
}

-- whether the last lemma is empty, with one more
end_push : (taken : List LogEntry) (literals : List ℤ) (hints : List ℕ) → Ended false taken → Ended (is_empty_lemma (Lemma literals hints)) (taken ++ Lemma literals hints ∷ [])
end_push taken [] hints none = (taken, hints, [], refl, All-nil (λ entry. is_lemma entry ≡ false))
end_push taken (literal ∷ literals) hints none = All-push (λ entry. is_empty_lemma entry ≡ false) taken (Lemma (literal ∷ literals) hints) none refl

end_drop : (ended : Bool) (taken : List LogEntry) (number : ℕ) → Ended ended taken → Ended ended (taken ++ Forget number ∷ [])
end_drop true taken number end = (
  end.0,
  end.1,
  end.2 ++ Forget number ∷ [],
  ap (λ log. log ++ Forget number ∷ []) end.3 ∙ append_assoc end.0 (Lemma [] end.1 ∷ end.2) (Forget number ∷ []),
  All-push (λ entry. is_lemma entry ≡ false) end.2 (Forget number) end.4 refl,
)
end_drop false taken number end = All-push (λ entry. is_empty_lemma entry ≡ false) taken (Forget number) end refl

-- a lemma that passes is taken
pub take_lemma : (variables : ℕ) (formula : List (List ℤ)) (log left : List LogEntry) (live : Numbered ℤ) (lemma : ℕ) (literals : List ℤ) (hints : List ℕ) →
    Progress variables formula log (Lemma literals hints ∷ left) live lemma false → PassesNow (state_at variables formula live) literals hints →
    Progress variables formula log left (live ++ Some literals ∷ []) (lemma + 1) (is_empty_lemma (Lemma literals hints))
take_lemma variables formula log left live lemma literals hints progress passes = record {
  taken = progress.taken ++ Lemma literals hints ∷ [];
  is = progress.is ∙ sym (append_assoc progress.taken (Lemma literals hints ∷ []) left);
  passed = each_lemma-push (LemmaPasses variables formula) [] progress.taken literals hints progress.passed
      (lemma_passes variables formula progress.taken live literals hints progress.clauses progress.end passes);
  clauses = sym (append_assoc (all_live formula) live (Some literals ∷ []))
      ∙ ap (λ clauses. clauses ++ Some literals ∷ []) progress.clauses
      ∙ sym (after_all-push (length formula) (all_live formula) progress.taken (Lemma literals hints));
  count = omega (arith, progress.count, lemmas_push progress.taken (Lemma literals hints));
  size = omega (arith, progress.size, length_push live (Some literals));
  literals = omega (arith, progress.literals, literals_push live literals, words_push progress.taken (Lemma literals hints));
  end = end_push progress.taken literals hints progress.end;
}

-- the lemmas after a drop
abbrev pub lemmas_after : ℕ → Numbered ℤ → ℕ → Numbered ℤ
lemmas_after size live number = cond (leb number size) live (set live (number - suc size) None)

pub drop_clauses : (formula : List (List ℤ)) (live : Numbered ℤ) (number : ℕ) (kept : Bool) → leb number (length formula) ≡ kept →
    all_live formula ++ cond kept live (set live (number - suc (length formula)) None)
    ≡ cond kept (all_live formula ++ live) (set (all_live formula ++ live) (number - 1) None)
drop_clauses formula live number true is = refl
drop_clauses formula live number false is =
    let behind = leb-false number (length formula) is in
    let place : number - suc (length formula) ≡ number - 1 - length formula = omega arith in
    rw place (sym (set-append_right (all_live formula) live (length formula) (number - 1) None (length-map formula (λ clause. Some clause)) (omega arith)))

drop_size : (live : Numbered ℤ) (gone : ℕ) (kept : Bool) → length (cond kept live (set live gone None)) ≡ length live
drop_size live gone true = refl
drop_size live gone false = length-set live gone None

drop_literals : (live : Numbered ℤ) (gone : ℕ) (kept : Bool) → live_literals (cond kept live (set live gone None)) ≤ live_literals live
drop_literals live gone true = omega arith
drop_literals live gone false = literals_set live gone

-- a drop is taken
pub take_drop : (variables : ℕ) (formula : List (List ℤ)) (log left : List LogEntry) (live : Numbered ℤ) (lemma : ℕ) (ended : Bool) (number : ℕ) →
    Progress variables formula log (Forget number ∷ left) live lemma ended → Progress variables formula log left (lemmas_after (length formula) live number) lemma ended
take_drop variables formula log left live lemma ended number progress = record {
  taken = progress.taken ++ Forget number ∷ [];
  is = progress.is ∙ sym (append_assoc progress.taken (Forget number ∷ []) left);
  passed = each_lemma-push_drop (LemmaPasses variables formula) [] progress.taken number progress.passed;
  clauses = drop_clauses formula live number (leb number (length formula)) refl
      ∙ ap (λ clauses. without (length formula) number clauses) progress.clauses
      ∙ sym (after_all-push (length formula) (all_live formula) progress.taken (Forget number));
  count = omega (arith, progress.count, lemmas_push progress.taken (Forget number));
  size = drop_size live (number - suc (length formula)) (leb number (length formula)) ∙ progress.size;
  literals = omega (arith, progress.literals, drop_literals live (number - suc (length formula)) (leb number (length formula)), words_push progress.taken (Forget number));
  end = end_drop ended progress.taken number progress.end;
}

-- behind an empty lemma, or where it does not follow, a lemma does not pass
not_passing : (variables : ℕ) (formula : List (List ℤ)) (taken : List LogEntry) (live : Numbered ℤ) (ended : Bool) (literals : List ℤ) (hints : List ℕ) →
    all_live formula ++ live ≡ clauses_after formula taken → Ended ended taken → (ended ≡ true) ⊎ (PassesNow (state_at variables formula live) literals hints → ⊥) →
    LemmaPasses variables formula taken literals hints → ⊥
not_passing variables formula taken live true literals hints same end fails passes =
    let all : All (λ entry. is_empty_lemma entry ≡ false) (end.0 ++ Lemma [] end.1 ∷ end.2) = rw end.3 at passes.none_empty in
    let member : Contains (end.0 ++ Lemma [] end.1 ∷ end.2) (Lemma [] end.1) = Contains-append_right end.0 (Lemma [] end.1 ∷ end.2) (Lemma [] end.1) (0, omega arith, refl) in
    true≢false (All-contains (λ entry. is_empty_lemma entry ≡ false) (end.0 ++ Lemma [] end.1 ∷ end.2) (Lemma [] end.1) all member)
not_passing variables formula taken live false literals hints same end (inl is) passes = false≢true is
not_passing variables formula taken live false literals hints same end (inr fails) passes =
    fails (record { within = passes.within; refuted = rw (← same) at passes.refuted })

pub lemma_fails : (variables : ℕ) (formula : List (List ℤ)) (log left : List LogEntry) (live : Numbered ℤ) (lemma : ℕ) (ended : Bool) (literals : List ℤ) (hints : List ℕ) →
    Progress variables formula log (Lemma literals hints ∷ left) live lemma ended → (ended ≡ true) ⊎ (PassesNow (state_at variables formula live) literals hints → ⊥) →
    FailsAt variables formula log (lemma + 1)
lemma_fails variables formula log left live lemma ended literals hints progress fails = record {
  before = progress.taken;
  literals = literals;
  hints = hints;
  behind = left;
  is = progress.is;
  passed = progress.passed;
  fails = not_passing variables formula progress.taken live ended literals hints progress.clauses progress.end fails;
  number = omega (arith, progress.count);
}

-- all was taken
pub all_taken : (variables : ℕ) (formula : List (List ℤ)) (log : List LogEntry) (live : Numbered ℤ) (lemma : ℕ) → Progress variables formula log [] live lemma true → Refutes variables formula log
all_taken variables formula log live lemma progress =
    let all : log ≡ progress.taken = progress.is ∙ append-nil progress.taken in
    record {
      all_pass = rw all progress.passed;
      before = progress.end.0;
      hints = progress.end.1;
      behind = progress.end.2;
      is = all ∙ progress.end.3;
      last = progress.end.4;
    }

pub none_empty : (variables : ℕ) (formula : List (List ℤ)) (log : List LogEntry) (live : Numbered ℤ) (lemma : ℕ) → Progress variables formula log [] live lemma false → ShowsNothing variables formula log
none_empty variables formula log live lemma progress =
    let all : log ≡ progress.taken = progress.is ∙ append-nil progress.taken in
    record { all_pass = rw all progress.passed; none_empty = rw all progress.end }

or_false : (b : Bool) → (b || false) ≡ b
or_false true = refl
or_false false = refl

-- one entry passes
moved : (variables : ℕ) (formula : List (List ℤ)) (log left : List LogEntry) (new : Checking) (live : Numbered ℤ) (lemma : ℕ) (ended : Bool) →
    new ≡ state_at variables formula live → Progress variables formula log left live lemma ended →
    (new ≡ state_at variables formula new.lemmas) × Progress variables formula log left new.lemmas lemma ended
moved variables formula log left new live lemma ended is progress =
    let same : live ≡ new.lemmas = sym (ap (λ (s : Checking). s.lemmas) is) in
    (is ∙ ap (state_at variables formula) same, subst (λ (ls : Numbered ℤ). Progress variables formula log left ls lemma ended) same progress)

drop_state : (variables : ℕ) (formula : List (List ℤ)) (live : Numbered ℤ) (number : ℕ) → after_drop (state_at variables formula live) number ≡ state_at variables formula (lemmas_after (length formula) live number)
drop_state variables formula live number = by_kept (leb number (length formula))
  where
    by_kept : (kept : Bool) → cond kept (state_at variables formula live) (state_at variables formula (set live (number - suc (length formula)) None)) ≡ state_at variables formula (cond kept live (set live (number - suc (length formula)) None))
    by_kept true = refl
    by_kept false = refl

pub goes_step : (variables : ℕ) (formula : List (List ℤ)) (log left : List LogEntry) (old new : Checking) (lemma : ℕ) (ended : Bool) (entry : LogEntry) →
    old ≡ state_at variables formula old.lemmas → Progress variables formula log (entry ∷ left) old.lemmas lemma ended → GoesOn ended old entry true new →
    (new ≡ state_at variables formula new.lemmas) × Progress variables formula log left new.lemmas (lemma + as_number (is_lemma entry)) (ended || is_empty_lemma entry)
goes_step variables formula log left old new lemma true (Lemma literals hints) state progress goes = absurd (true≢false goes.0)
goes_step variables formula log left old new lemma false (Lemma literals hints) state progress goes =
    let passes = subst (λ (s : Checking). PassesNow s literals hints) state goes.1 in
    let is : new ≡ state_at variables formula (old.lemmas ++ Some literals ∷ []) = goes.2 ∙ ap (λ (s : Checking). with_lemma s literals) state in
    moved variables formula log left new (old.lemmas ++ Some literals ∷ []) (lemma + 1) (is_empty_lemma (Lemma literals hints)) is
    (take_lemma variables formula log left old.lemmas lemma literals hints progress passes)
goes_step variables formula log left old new lemma ended (Forget number) state progress goes =
    let is : new ≡ state_at variables formula (lemmas_after (length formula) old.lemmas number) =
    goes ∙ ap (λ (s : Checking). after_drop s number) state ∙ drop_state variables formula old.lemmas number in
    let next = moved variables formula log left new (lemmas_after (length formula) old.lemmas number) lemma ended is
    (take_drop variables formula log left old.lemmas lemma ended number progress) in
    let count : lemma ≡ lemma + 0 = omega arith in
    (next.0, rw (← count, or_false ended) next.1)

-- one entry does not
pub fails_step : (variables : ℕ) (formula : List (List ℤ)) (log left : List LogEntry) (old new : Checking) (lemma : ℕ) (ended : Bool) (entry : LogEntry) →
    old ≡ state_at variables formula old.lemmas → Progress variables formula log (entry ∷ left) old.lemmas lemma ended → GoesOn ended old entry false new →
    FailsAt variables formula log (lemma + as_number (is_lemma entry))
fails_step variables formula log left old new lemma ended (Lemma literals hints) state progress fails =
    lemma_fails variables formula log left old.lemmas lemma ended literals hints progress
    (subst (λ (s : Checking). (ended ≡ true) ⊎ (PassesNow s literals hints → ⊥)) state fails)
fails_step variables formula log left old new lemma ended (Forget number) state progress fails = absurd fails

-- there is room for one entry more
entry_two : (entry : LogEntry) → 2 * as_number (is_lemma entry) ≤ entry_words entry
entry_two (Lemma literals hints) = omega arith
entry_two (Forget number) = omega arith

two_words : (log : List LogEntry) → 2 * lemmas log ≤ log_words log
two_words [] = omega arith
two_words (entry ∷ log) =
    omega (arith, sum_by-cons (λ (e : LogEntry). as_number (is_lemma e)) entry log, sum_by-cons entry_words entry log, two_words log, entry_two entry)

pub room : (variables : ℕ) (formula : List (List ℤ)) (log left : List LogEntry) (live : Numbered ℤ) (lemma : ℕ) (ended : Bool) (entry : LogEntry) →
    Progress variables formula log (entry ∷ left) live lemma ended → log_words log ≤ 1000000000 →
    (lemma + as_number (is_lemma entry) ≤ 500000000) × (live_literals live + entry_words entry ≤ 1000000000) × (length live < 1000000000)
room variables formula log left live lemma ended entry progress few =
    let words : log_words log ≡ log_words progress.taken + (entry_words entry + log_words left) =
    omega (arith, ap log_words progress.is, sum_by-append entry_words progress.taken (entry ∷ left), sum_by-cons entry_words entry left) in
    let before = two_words progress.taken in
    let here = entry_two entry in (
      omega (arith, progress.count),
      omega (arith, progress.literals),
      omega (arith, progress.count, progress.size),
    )

-- the answer when all was taken
pub answer_at : (cnf : Cnf) (log left : List LogEntry) (live : Numbered ℤ) (lemma : ℕ) (ended : Bool) (answer : LogAnswer) → left ≡ [] →
    Progress cnf.variables cnf.clauses log left live lemma ended → answer ≡ cond ended answers.Refutes answers.NoEmpty → IsAnswer cnf log answer
answer_at cnf log left live lemma true answer none progress is =
    let all : Progress cnf.variables cnf.clauses log [] live lemma true = rw none at progress in
    rw is (all_taken cnf.variables cnf.clauses log live lemma all)
answer_at cnf log left live lemma false answer none progress is =
    let all : Progress cnf.variables cnf.clauses log [] live lemma false = rw none at progress in
    rw is (none_empty cnf.variables cnf.clauses log live lemma all)

-- where that is a refutation, the formula has no model
pub no_model_at : (cnf : Cnf) (log left : List LogEntry) (live : Numbered ℤ) (lemma : ℕ) (ended : Bool) (answer : LogAnswer) → left ≡ [] →
    Progress cnf.variables cnf.clauses log left live lemma ended → answer ≡ cond ended answers.Refutes answers.NoEmpty → answer ≡ answers.Refutes →
    (values : Assignment) → IsModel values cnf.clauses → ⊥
no_model_at cnf log left live lemma ended answer none progress is refutes =
    let by : Refutes cnf.variables cnf.clauses log = subst (IsAnswer cnf log) refutes (answer_at cnf log left live lemma ended answer none progress is) in
    λ values model. no_model values cnf.variables cnf.clauses log cnf.within by model
