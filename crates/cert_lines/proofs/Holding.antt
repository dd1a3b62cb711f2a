-- What the checker of a log holds, as the section's entries have it.
use Rattle.std.proofs.Common.{◌≡◌, ◌∙◌, ap, sym, subst, ℕ, zero, suc, ◌+◌, ◌-◌, ◌*◌, ◌<◌, ◌≤◌, ℤ, pos, negsuc, Bool, true, false, leb, ◌||◌, List, [], ◌∷◌, ◌++◌, length, drop, get_or, set, Some, None, IsSome, is_some, arith, refl, append_assoc, length-append, length-set}
use Rattle.std.specs.Prelude.{decimal, neg_ℤ}
use Rattle.std.specs.Fmt.{signed_decimal}
use Rattle.std.specs.Bool.{IsTrue}
use Rattle.std.specs.List.{All, count_by, list_all}
use Rattle.std.proofs.lemmas.Bool.{and_parts, cond-false, lt-leb, true≢false}
use Rattle.std.proofs.lemmas.Fmt.{decimal_nonempty}
use Rattle.std.proofs.lemmas.List.{get_or-append_right, length-map, length_push}
use Rattle.std.proofs.lemmas.List.Elements.{All-cons, All-nil}
use Rattle.std.proofs.Math.Seq.{drop-append_seam}
use Rattle.clause_log.proofs.Running.{drop_clauses, literals_push, literals_set}
use Rattle.clause_log.specs.Checking.{Answers, Checking, IsLiveLemma, PassesNow, held, lemma_place, with_lemma, without_lemma}
use Rattle.clause_log.specs.declared.step.Step.{Step}
use Rattle.clause_log.specs.declared.step.Step.TheVariants.{Passes, Fails, TooManyLive, BadDrop}
use Rattle.clauses.proofs.Lives.{after_all-push}
use Rattle.clauses.specs.Literals.{clause_within, is_literal}
use Rattle.clauses.specs.Live.{all_live, clause_of, without}
use Rattle.clauses.specs.Logs.{LogEntry, clauses_after, entry_words, is_empty_lemma, is_entry, is_number}
use Rattle.clauses.specs.Logs.LogEntry.{Lemma, Forget}
use Rattle.clauses.specs.Passing as passing
use Rattle.clauses.specs.declared.flat.TheConstants.{MOST_VARIABLES}
use Rattle.clause_text.specs.Lines.{entry_text, hints_text, literals_text}
use Rattle.clause_text.proofs.Numerals.{number_parts}
use Rattle.cert_theory.specs.declared.header.Form.{Form}
use Rattle.cert_theory.specs.Sections.{IsEntryLine, NamesLive, PassesBehind, Query, has_empty, live_lemmas}
use Rattle.cert_theory.proofs.Entries.{entry_is}
use Rattle.cert_theory.proofs.Passed.{empty_push}
use Rattle.cert_lines.specs.Sections.{HoldsLive, bytes_of}

-- the empty lemma does not stand among entries
pub all_none : (entries : List LogEntry) → has_empty entries ≡ false → All (λ entry. is_empty_lemma entry ≡ false) entries
all_none [] none = All-nil (λ entry. is_empty_lemma entry ≡ false)
all_none (entry ∷ entries) none =
    let parts = or_parts (is_empty_lemma entry) (has_empty entries) none in
    All-cons (λ entry. is_empty_lemma entry ≡ false) entry entries parts.0 (all_none entries parts.1)
  where
    or_parts : (a b : Bool) → (a || b) ≡ false → (a ≡ false) × (b ≡ false)
    or_parts true b is = absurd (true≢false is)
    or_parts false b is = (refl, is)

pub ends_push : (entries : List LogEntry) (entry : LogEntry) → has_empty entries ≡ false → has_empty (entries ++ entry ∷ []) ≡ is_empty_lemma entry
ends_push entries entry none =
    empty_push entries entry ∙ ap (λ (b : Bool). b || (is_empty_lemma entry || false)) none ∙ or_false (is_empty_lemma entry)
  where
    or_false : (b : Bool) → (b || false) ≡ b
    or_false true = refl
    or_false false = refl

module _ (query : Query) (live : ℕ) (entries : List LogEntry) (state : Checking) (holds : HoldsLive query live entries state) where
  -- the lemmas are those behind the formula's clauses
  size_is : length (all_live query.clauses) ≡ length query.clauses
  size_is = length-map query.clauses (λ clause. Some clause)

  lemmas_are : state.lemmas ≡ drop (length query.clauses) (clauses_after query.clauses entries)
  lemmas_are =
      sym (drop-append_seam (all_live query.clauses) state.lemmas)
      ∙ ap (λ (n : ℕ). drop n (all_live query.clauses ++ state.lemmas)) size_is
      ∙ ap (drop (length query.clauses)) holds.clauses

  pub held_is : held state ≡ live_lemmas query entries
  held_is = ap (count_by (λ clause. is_some clause)) lemmas_are

  -- the clauses are the same
  clauses_are : all_live state.formula ++ state.lemmas ≡ clauses_after query.clauses entries
  clauses_are = ap (λ (formula : List (List ℤ)). all_live formula ++ state.lemmas) holds.formula ∙ holds.clauses

  pub passes_behind : (literals : List ℤ) (hints : List ℕ) → has_empty entries ≡ false → PassesNow state literals hints → PassesBehind query entries literals hints
  passes_behind literals hints none passes = record {
    none_empty = all_none entries none;
    within = subst (λ (n : ℕ). IsTrue (clause_within n literals)) holds.variables passes.within;
    refuted = subst (λ clauses. passing.Passes neg_ℤ (clause_of clauses) literals hints) clauses_are passes.refuted;
  }

  pub passes_now : (literals : List ℤ) (hints : List ℕ) → PassesBehind query entries literals hints → PassesNow state literals hints
  passes_now literals hints passes = record {
    within = subst (λ (n : ℕ). IsTrue (clause_within n literals)) (sym holds.variables) passes.within;
    refuted = subst (λ clauses. passing.Passes neg_ℤ (clause_of clauses) literals hints) (sym clauses_are) passes.refuted;
  }

  -- the lemma of a number
  at_number : (number : ℕ) → length query.clauses < number → clause_of (clauses_after query.clauses entries) number ≡ get_or state.lemmas (lemma_place state number) None
  at_number zero behind = absurd (omega arith)
  at_number (suc place) behind =
      ap (λ clauses. get_or clauses place None) (sym holds.clauses)
      ∙ get_or-append_right (all_live query.clauses) state.lemmas (length query.clauses) place None size_is (omega arith)
      ∙ ap (λ (n : ℕ). get_or state.lemmas n None) (omega (arith, ap length holds.formula))

  pub names_live : (number : ℕ) → IsLiveLemma state number → NamesLive query entries number
  names_live number is =
      let behind : length query.clauses < number = omega (arith, is.0, ap length holds.formula) in
      (behind, subst (λ clause. IsSome clause) (sym (at_number number behind)) is.1)

  pub is_live_lemma : (number : ℕ) → NamesLive query entries number → IsLiveLemma state number
  is_live_lemma number names =
      (omega (arith, names.0, ap length holds.formula), subst (λ clause. IsSome clause) (at_number number names.0) names.1)

  -- one entry more
  pub holds_lemma : (literals : List ℤ) (hints : List ℕ) → HoldsLive query live (entries ++ Lemma literals hints ∷ []) (with_lemma state literals)
  holds_lemma literals hints = record {
    variables = holds.variables;
    formula = holds.formula;
    limit = holds.limit;
    clauses = sym (append_assoc (all_live query.clauses) state.lemmas (Some literals ∷ []))
        ∙ ap (λ clauses. clauses ++ Some literals ∷ []) holds.clauses
        ∙ sym (after_all-push (length query.clauses) (all_live query.clauses) entries (Lemma literals hints));
  }

  dropped : (number : ℕ) → length query.clauses < number
      → all_live query.clauses ++ set state.lemmas (lemma_place state number) None ≡ without (length query.clauses) number (all_live query.clauses ++ state.lemmas)
  dropped number behind =
      ap (λ (n : ℕ). all_live query.clauses ++ set state.lemmas (number - suc n) None) (ap length holds.formula)
      ∙ ap (λ lemmas. all_live query.clauses ++ lemmas)
      (sym (cond-false (leb number (length query.clauses)) state.lemmas (set state.lemmas (number - suc (length query.clauses)) None) (lt-leb number (length query.clauses) behind)))
      ∙ drop_clauses query.clauses state.lemmas number (leb number (length query.clauses)) refl

  pub holds_drop : (number : ℕ) → NamesLive query entries number → HoldsLive query live (entries ++ Forget number ∷ []) (without_lemma state number)
  holds_drop number names = record {
    variables = holds.variables;
    formula = holds.formula;
    limit = holds.limit;
    clauses = dropped number names.0
        ∙ ap (λ clauses. without (length query.clauses) number clauses) holds.clauses
        ∙ sym (after_all-push (length query.clauses) (all_live query.clauses) entries (Forget number));
  }

-- the bytes of a line
literal_long : (literal : ℤ) → is_literal literal ≡ true → 0 < length (signed_decimal literal)
literal_long (pos n) some = decimal_nonempty n (omega (arith, (number_parts n some).1))
literal_long (negsuc n) some = omega arith

pub literals_long : (literals : List ℤ) → IsTrue (clause_within MOST_VARIABLES literals) → 2 * (length literals + 1) ≤ length (literals_text literals) + 1
literals_long [] within = omega arith
literals_long (literal ∷ literals) within =
    let parts = and_parts (is_literal literal) (clause_within MOST_VARIABLES literals) within in
    omega (arith, literal_long literal parts.0, literals_long literals parts.1, length-append (signed_decimal literal) (32 ∷ literals_text literals))

hints_long : (hints : List ℕ) → list_all is_number hints ≡ true → 2 * (length hints + 1) ≤ length (hints_text hints) + 1
hints_long [] all = omega arith
hints_long (hint ∷ hints) all =
    let parts = and_parts (is_number hint) (list_all is_number hints) all in
    omega (arith, decimal_nonempty hint (omega (arith, (number_parts hint parts.0).1)), hints_long hints parts.1, length-append (decimal hint) (32 ∷ hints_text hints))

pub entry_long : (entry : LogEntry) → is_entry entry ≡ true → 2 * entry_words entry ≤ length (entry_text entry) + 1
entry_long (Lemma literals hints) some =
    let parts = and_parts (clause_within MOST_VARIABLES literals) (list_all is_number hints) some in
    omega (arith, literals_long literals parts.0, hints_long hints parts.1, length-append (literals_text literals) (32 ∷ hints_text hints))
entry_long (Forget number) some = omega arith

pub line_long : (form : Form) (line : List ℕ) (entry : LogEntry) → IsEntryLine form line entry → 2 * entry_words entry ≤ length line + 1
line_long form line entry is =
    omega (arith, entry_long entry (entry_is form line entry is), ap (λ (text : List ℕ). length text) is.is)

-- what is held takes no more bytes than the lines had
pub bytes_after : (old new : Checking) (entry : LogEntry) (step : Step) (size : ℕ) → 2 * entry_words entry ≤ size + 1 → Answers old entry step new → bytes_of new ≤ bytes_of old + size + 1
bytes_after old new (Lemma literals hints) Passes size long answers =
    omega (arith, long, ap bytes_of answers.2, literals_push old.lemmas literals, length_push old.lemmas (Some literals))
bytes_after old new (Lemma literals hints) Fails size long answers = omega (arith, ap bytes_of answers.1)
bytes_after old new (Lemma literals hints) TooManyLive size long answers = omega (arith, ap bytes_of answers.2)
bytes_after old new (Lemma literals hints) BadDrop size long answers = absurd answers
bytes_after old new (Forget number) Passes size long answers =
    omega (arith, ap bytes_of answers.1, literals_set old.lemmas (lemma_place old number), length-set old.lemmas (lemma_place old number) None)
bytes_after old new (Forget number) Fails size long answers = absurd answers
bytes_after old new (Forget number) TooManyLive size long answers = absurd answers
bytes_after old new (Forget number) BadDrop size long answers = omega (arith, ap bytes_of answers.1)
