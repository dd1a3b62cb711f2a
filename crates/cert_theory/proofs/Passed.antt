-- What is passed of a section: each log refutes its formula, and the clauses name state bits.
use Rattle.std.proofs.Common.{◌≡◌, ◌∙◌, ap, sym, ℕ, ℤ, Bool, true, false, ◌||◌, List, [], ◌∷◌, ◌++◌, refl}
use Rattle.std.specs.Bool.{IsTrue}
use Rattle.std.proofs.lemmas.Bool.{and_from, false≢true}
use Rattle.std.proofs.lemmas.List.Elements.{All-nil}
use Rattle.std.proofs.lemmas.List.Folds.{list_all-append}
use Rattle.clauses.specs.Literals.{clause_within, clauses_within}
use Rattle.clauses.specs.Logs.{LogEntry, AllPass, LemmaPasses, is_empty_lemma, is_lemma}
use Rattle.clauses.specs.Logs.LogEntry.{Lemma, Forget}
use Rattle.clauses.proofs.Lives.{each_lemma-push, each_lemma-push_drop}
use Rattle.cert_theory.specs.declared.header.Header.{Header}
use Rattle.cert_theory.specs.Phases.{NamesBits}
use Rattle.cert_theory.specs.Sections.{IsTaken, Queries, Query, has_empty}
use Rattle.cert_theory.specs.Shown.{IsRefuted}
use Rattle.cert_theory.proofs.Entries.{passes_none}

-- the entries of a section so far: all lemmas pass, and only the last may be empty
pub record Progress (query : Query) (entries : List LogEntry) : Type 0 where
  pub passed : AllPass query.variables query.clauses entries
  pub last : has_empty entries ≡ true → (before : List LogEntry) × (hints : List ℕ) × (entries ≡ before ++ Lemma [] hints ∷ [])

pub nothing : (query : Query) → Progress query []
nothing query = record { passed = tt; last = λ some. absurd (false≢true some) }

pub empty_push : (entries : List LogEntry) (entry : LogEntry) → has_empty (entries ++ entry ∷ []) ≡ (has_empty entries || (is_empty_lemma entry || false))
empty_push [] entry = refl
empty_push (first ∷ entries) entry = ap (λ (b : Bool). is_empty_lemma first || b) (empty_push entries entry) ∙ sym (assoc (is_empty_lemma first) (has_empty entries) _)
  where
    assoc : (a b c : Bool) → ((a || b) || c) ≡ (a || (b || c))
    assoc true b c = refl
    assoc false b c = refl

still_none : (entries : List LogEntry) (entry : LogEntry) → has_empty entries ≡ false → is_empty_lemma entry ≡ false → has_empty (entries ++ entry ∷ []) ≡ true → ⊥
still_none entries entry none other some =
    false≢true (sym (empty_push entries entry ∙ ap (λ (b : Bool). b || (is_empty_lemma entry || false)) none ∙ ap (λ (b : Bool). b || false) other) ∙ some)

pub taken : (header : Header) (query : Query) (entries : List LogEntry) (entry : LogEntry) → Progress query entries → IsTaken header query entries entry
    → Progress query (entries ++ entry ∷ [])
taken header query entries (Lemma [] hints) progress is = record {
  passed = each_lemma-push (LemmaPasses query.variables query.clauses) [] entries [] hints progress.passed is.0;
  last = λ some. (entries, hints, refl);
}
taken header query entries (Lemma (literal ∷ literals) hints) progress is = record {
  passed = each_lemma-push (LemmaPasses query.variables query.clauses) [] entries (literal ∷ literals) hints progress.passed is.0;
  last = λ some. absurd (still_none entries (Lemma (literal ∷ literals) hints) (passes_none query entries (literal ∷ literals) hints is.0) refl some);
}
taken header query entries (Forget number) progress is = record {
  passed = each_lemma-push_drop (LemmaPasses query.variables query.clauses) [] entries number progress.passed;
  last = λ some. absurd (still_none entries (Forget number) is.0 refl some);
}

pub refuted : (query : Query) (entries : List LogEntry) → Progress query entries → has_empty entries ≡ true → IsRefuted query
refuted query entries progress some =
    let last = progress.last some in (
      entries,
      record { all_pass = progress.passed; before = last.0; hints = last.1; behind = []; is = last.2; last = All-nil (λ entry. is_lemma entry ≡ false) },
    )

-- the clauses of a certificate name state bits
abbrev pub AreWithin : Queries → Header → List (List ℤ) → Type 0
AreWithin queries header clauses = IsTrue (clauses_within (queries.width header.visits) clauses)

pub none_within : (queries : Queries) (header : Header) → AreWithin queries header []
none_within queries header = refl

pub one_within : (queries : Queries) (header : Header) (clauses : List (List ℤ)) (clause : List ℤ) → AreWithin queries header clauses → NamesBits (queries.width header.visits) clause
    → AreWithin queries header (clauses ++ clause ∷ [])
one_within queries header clauses clause all here =
    let width = queries.width header.visits in
    list_all-append (clause_within width) clauses (clause ∷ [])
    ∙ and_from (clauses_within width clauses) (clauses_within width (clause ∷ [])) all (and_from (clause_within width clause) true here refl)
