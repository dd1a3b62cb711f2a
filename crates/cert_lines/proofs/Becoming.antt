-- What becomes of the line of an entry.
use Rattle.std.proofs.Common.{◌≡◌, ◌∙◌, ap, sym, subst, ℕ, false, List, [], ◌∷◌, ◌++◌, arith}
use Rattle.clause_log.specs.Checking.{Answers, Checking, with_lemma, without_lemma}
use Rattle.clause_log.specs.declared.step.Step.{Step}
use Rattle.clause_log.specs.declared.step.Step.TheVariants.{Passes, Fails, TooManyLive, BadDrop}
use Rattle.clauses.specs.Logs.{LogEntry, is_empty_lemma}
use Rattle.clauses.specs.Logs.LogEntry.{Lemma, Forget}
use Rattle.cert_theory.specs.Sections.{IsEntryLine, Query, has_empty}
use Rattle.cert_lines.specs.declared.entries.SectionChecker.{SectionChecker}
use Rattle.cert_lines.specs.Sections.{Becomes, Holds, HoldsLive, step_of}
use Rattle.cert_lines.proofs.Holding.{ends_push, held_is, holds_drop, holds_lemma, is_live_lemma, names_live, passes_behind, passes_now}

module _ (old new : SectionChecker) (query : Query) (entries : List LogEntry) (line : List ℕ) (holds : Holds query entries old) (open_ : old.ended ≡ false)
    (header : new.header ≡ old.header) where
  none : has_empty entries ≡ false
  none = sym holds.ended ∙ open_

  holds_new : (entry : LogEntry) → new.ended ≡ is_empty_lemma entry → (state : Checking) → new.checker ≡ state → HoldsLive query old.header.live (entries ++ entry ∷ []) state
      → Holds query (entries ++ entry ∷ []) new
  holds_new entry ended state is live = record {
    state = subst (λ h. HoldsLive query h (entries ++ entry ∷ []) new.checker) (sym (ap (λ h. h.live) header))
        (subst (λ (s : Checking). HoldsLive query old.header.live (entries ++ entry ∷ []) s) (sym is) live);
    ended = ended ∙ sym (ends_push entries entry none);
  }

  pub becomes_taken : (entry : LogEntry) (step : Step) → IsEntryLine old.header.form line entry → new.ended ≡ is_empty_lemma entry → Answers old.checker entry step new.checker
      → Becomes old query entries line (step_of step) new
  becomes_taken (Lemma literals hints) Passes is ended answers = (
    Lemma literals hints,
    is,
    (
      passes_behind query old.header.live entries old.checker holds.state literals hints none answers.0,
      omega (arith, answers.1, held_is query old.header.live entries old.checker holds.state, holds.state.limit),
    ),
    holds_new (Lemma literals hints) ended (with_lemma old.checker literals) answers.2
        (holds_lemma query old.header.live entries old.checker holds.state literals hints),
  )
  becomes_taken (Lemma literals hints) Fails is ended answers =
      (none, literals, hints, is, λ passes. answers.0 (passes_now query old.header.live entries old.checker holds.state literals hints passes))
  becomes_taken (Lemma literals hints) TooManyLive is ended answers = (
    literals,
    hints,
    is,
    passes_behind query old.header.live entries old.checker holds.state literals hints none answers.0,
    omega (arith, answers.1, held_is query old.header.live entries old.checker holds.state, holds.state.limit),
  )
  becomes_taken (Lemma literals hints) BadDrop is ended answers = absurd answers
  becomes_taken (Forget number) Passes is ended answers =
      let names = names_live query old.header.live entries old.checker holds.state number answers.0 in (
        Forget number,
        is,
        (none, names),
        holds_new (Forget number) ended (without_lemma old.checker number) answers.1
            (holds_drop query old.header.live entries old.checker holds.state number names),
      )
  becomes_taken (Forget number) Fails is ended answers = absurd answers
  becomes_taken (Forget number) TooManyLive is ended answers = absurd answers
  becomes_taken (Forget number) BadDrop is ended answers =
      (none, number, is, λ names. answers.0 (is_live_lemma query old.header.live entries old.checker holds.state number names))
