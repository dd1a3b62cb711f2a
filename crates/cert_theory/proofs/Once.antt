-- At a phase a line leads on in one way, or is refused for one reason.
use Rattle.std.proofs.Common.{◌≡◌, ◌⊎◌, inl, inr, ◌∙◌, ap, sym, subst, ℕ, ℤ, true, false, List, [], ◌∷◌, ◌++◌, arith, refl}
use Rattle.std.proofs.lemmas.Bool.{true≢false}
use Rattle.clauses.specs.Logs.{LogEntry}
use Rattle.clauses.specs.Logs.LogEntry.{Lemma, Forget}
use Rattle.cert_theory.specs.declared.answer.CertReason.{CertReason}
use Rattle.cert_theory.specs.declared.answer.CertReason.TheVariants.{BadHeader, BadLine, WrongAssertion, LemmaFails, NoEmptyClause, EndsInside, TrailingBytes, TooManyLive, BadDrop, BadClause}
use Rattle.cert_theory.specs.declared.header.Asked.{Asked}
use Rattle.cert_theory.specs.declared.header.Field.TheVariants as field
use Rattle.cert_theory.specs.declared.header.Header.{Header}
use Rattle.cert_theory.specs.declared.header.Section.{Section}
use Rattle.cert_theory.specs.Headers.{IsAsked}
use Rattle.cert_theory.specs.Lines.{IsClauseLine, end_line, initial_line}
use Rattle.cert_theory.specs.Phases.{Phase, Follows, IsRefusedLine, NamesBits, behind_visits, behind_window}
use Rattle.cert_theory.specs.Phases.Phase.{AtVersion, AtAssertion, AtVisits, AtWindow, AtLive, AtLast, InClauses, InSection, AtEnd}
use Rattle.cert_theory.specs.Sections.{IsBadLine, IsEntryLine, IsSectionRefused, IsTaken, PassesBehind, Queries, Query, has_empty, query_at}
use Rattle.cert_theory.proofs.Entries.{clause_same, entry_same, no_end, no_initial, passes_none, taken_none}
use Rattle.cert_theory.proofs.Fields.{form_once, says_once}

pub follows_once : (asked : Asked) (queries : Queries) (phase : Phase) (line : List ℕ) (next other : Phase) → Follows asked queries phase line next
    → Follows asked queries phase line other → next ≡ other
follows_once asked queries AtVersion line next other one two = one.2 ∙ ap AtAssertion (form_once one.0 two.0 (sym one.1 ∙ two.1)) ∙ sym two.2
follows_once asked queries (AtAssertion form) line next other one two = one.3 ∙ sym two.3
follows_once asked queries (AtVisits form) line next other one two =
    one.2 ∙ ap (behind_visits form) (says_once field.Visits line one.0 two.0 one.1 two.1) ∙ sym two.2
follows_once asked queries (AtWindow form visits) line next other one two =
    one.2 ∙ ap (behind_window form visits) (says_once field.Window line one.0 two.0 one.1 two.1) ∙ sym two.2
follows_once asked queries (AtLive form visits window) line next other one two =
    one.2 ∙ ap (λ live. AtLast (record { form = form; visits = visits; window = window; live = live })) (says_once field.Live line one.0 two.0 one.1 two.1) ∙ sym two.2
follows_once asked queries (AtLast header) line next other one two = one.1 ∙ sym two.1
follows_once asked queries (InClauses header clauses) line next other (inl one) (inl two) =
    one.3 ∙ ap (λ clause. InClauses header (clauses ++ clause ∷ [])) (clause_same line one.0 two.0 one.1 two.1) ∙ sym two.3
follows_once asked queries (InClauses header clauses) line next other (inl one) (inr two) = absurd (no_initial line one.0 one.1 two.0)
follows_once asked queries (InClauses header clauses) line next other (inr one) (inl two) = absurd (no_initial line two.0 two.1 one.0)
follows_once asked queries (InClauses header clauses) line next other (inr one) (inr two) = one.1 ∙ sym two.1
follows_once asked queries (InSection header clauses section entries) line next other (inl one) (inl two) =
    one.3 ∙ ap (λ entry. InSection header clauses section (entries ++ entry ∷ [])) (entry_same header.form line one.0 two.0 one.1 two.1) ∙ sym two.3
follows_once asked queries (InSection header clauses section entries) line next other (inl one) (inr two) = absurd (no_end header.form section line one.0 one.1 two.0)
follows_once asked queries (InSection header clauses section entries) line next other (inr one) (inl two) = absurd (no_end header.form section line two.0 two.1 one.0)
follows_once asked queries (InSection header clauses section entries) line next other (inr one) (inr two) = one.2 ∙ sym two.2
follows_once asked queries AtEnd line next other one two = absurd one

-- an entry that is taken is not refused
taken_refused : (header : Header) (section : Section) (query : Query) (entries : List LogEntry) (line : List ℕ) (entry : LogEntry) → IsEntryLine header.form line entry
    → IsTaken header query entries entry → (reason : CertReason) → IsSectionRefused header section query entries line reason → ⊥
taken_refused header section query entries line entry is taken BadHeader refused = refused
taken_refused header section query entries line entry is taken BadLine (inl refused) = refused.1 entry is
taken_refused header section query entries line entry is taken BadLine (inr refused) = true≢false (sym refused.0 ∙ taken_none header query entries entry taken)
taken_refused header section query entries line entry is taken WrongAssertion refused = refused
taken_refused header section query entries line entry is taken LemmaFails refused =
    let same = entry_same header.form line entry (Lemma refused.1 refused.2) is refused.3 in
    refused.4 (subst (λ (e : LogEntry). IsTaken header query entries e) same taken).0
taken_refused header section query entries line entry is taken NoEmptyClause refused = no_end header.form section line entry is refused.0
taken_refused header section query entries line entry is taken EndsInside refused = refused
taken_refused header section query entries line entry is taken TrailingBytes refused = refused
taken_refused header section query entries line entry is taken TooManyLive refused =
    let same = entry_same header.form line entry (Lemma refused.0 refused.1) is refused.2 in
    let few = (subst (λ (e : LogEntry). IsTaken header query entries e) same taken).1 in
    omega (arith, few, refused.4)
taken_refused header section query entries line entry is taken BadDrop refused =
    let same = entry_same header.form line entry (Forget refused.1) is refused.2 in
    refused.3 (subst (λ (e : LogEntry). IsTaken header query entries e) same taken).1
taken_refused header section query entries line entry is taken BadClause refused = refused

-- nor is the word that ends a section with the empty lemma
end_refused : (header : Header) (section : Section) (query : Query) (entries : List LogEntry) (line : List ℕ) → line ≡ end_line section → has_empty entries ≡ true
    → (reason : CertReason) → IsSectionRefused header section query entries line reason → ⊥
end_refused header section query entries line end some BadHeader refused = refused
end_refused header section query entries line end some BadLine (inl refused) = refused.0 end
end_refused header section query entries line end some BadLine (inr refused) = no_end header.form section line refused.1 refused.2 end
end_refused header section query entries line end some WrongAssertion refused = refused
end_refused header section query entries line end some LemmaFails refused = true≢false (sym some ∙ refused.0)
end_refused header section query entries line end some NoEmptyClause refused = true≢false (sym some ∙ refused.1)
end_refused header section query entries line end some EndsInside refused = refused
end_refused header section query entries line end some TrailingBytes refused = refused
end_refused header section query entries line end some TooManyLive refused = no_end header.form section line (Lemma refused.0 refused.1) refused.2 end
end_refused header section query entries line end some BadDrop refused = true≢false (sym some ∙ refused.0)
end_refused header section query entries line end some BadClause refused = refused

-- a refusal inside a section is one of the section's
inside : (asked : Asked) (queries : Queries) (header : Header) (clauses : List (List ℤ)) (section : Section) (entries : List LogEntry) (line : List ℕ) (reason : CertReason)
    → IsRefusedLine asked queries (InSection header clauses section entries) line reason
    → IsSectionRefused header section (query_at queries header clauses section) entries line reason
inside asked queries header clauses section entries line BadHeader refused = refused
inside asked queries header clauses section entries line BadLine refused = refused
inside asked queries header clauses section entries line WrongAssertion refused = refused
inside asked queries header clauses section entries line LemmaFails refused = refused
inside asked queries header clauses section entries line NoEmptyClause refused = refused
inside asked queries header clauses section entries line EndsInside refused = refused
inside asked queries header clauses section entries line TrailingBytes refused = refused
inside asked queries header clauses section entries line TooManyLive refused = refused
inside asked queries header clauses section entries line BadDrop refused = refused
inside asked queries header clauses section entries line BadClause refused = refused

-- why a line among the clauses is refused
abbrev NoClauseLine : List ℕ → CertReason → Type 0
NoClauseLine line reason = (reason ≡ BadLine) × (line ≡ initial_line → ⊥) × ((clause : List ℤ) → IsClauseLine line clause → ⊥)

abbrev NamesNoBit : ℕ → List ℕ → CertReason → Type 0
NamesNoBit width line reason =
    (reason ≡ BadClause) × (clause : List ℤ) × IsClauseLine line clause × (NamesBits width clause → ⊥)

among : (asked : Asked) (queries : Queries) (header : Header) (clauses : List (List ℤ)) (line : List ℕ) (reason : CertReason)
    → IsRefusedLine asked queries (InClauses header clauses) line reason → NoClauseLine line reason ⊎ NamesNoBit (queries.width header.visits) line reason
among asked queries header clauses line BadLine refused = inl (refl, refused.0, refused.1)
among asked queries header clauses line BadClause refused = inr (refl, refused.0, refused.1, refused.2)
among asked queries header clauses line BadHeader refused = absurd refused
among asked queries header clauses line WrongAssertion refused = absurd refused
among asked queries header clauses line LemmaFails refused = absurd refused
among asked queries header clauses line NoEmptyClause refused = absurd refused
among asked queries header clauses line EndsInside refused = absurd refused
among asked queries header clauses line TrailingBytes refused = absurd refused
among asked queries header clauses line TooManyLive refused = absurd refused
among asked queries header clauses line BadDrop refused = absurd refused

-- a clause that is taken is not refused, nor is the word behind the clauses
clause_refused : (width : ℕ) (line : List ℕ) (clause : List ℤ) (reason : CertReason) → IsClauseLine line clause → NamesBits width clause
    → NoClauseLine line reason ⊎ NamesNoBit width line reason → ⊥
clause_refused width line clause reason is names (inl refused) = refused.2 clause is
clause_refused width line clause reason is names (inr refused) =
    refused.3 (subst (λ (c : List ℤ). NamesBits width c) (clause_same line clause refused.1 is refused.2) names)

initial_refused : (width : ℕ) (line : List ℕ) (reason : CertReason) → line ≡ initial_line
    → NoClauseLine line reason ⊎ NamesNoBit width line reason → ⊥
initial_refused width line reason is (inl refused) = refused.1 is
initial_refused width line reason is (inr refused) = no_initial line refused.1 refused.2 is

pub follows_refused : (asked : Asked) (queries : Queries) (phase : Phase) (line : List ℕ) (next : Phase) → Follows asked queries phase line next
    → (reason : CertReason) → IsRefusedLine asked queries phase line reason → ⊥
follows_refused asked queries AtVersion line next one BadHeader refused = refused one.0 one.1
follows_refused asked queries AtVersion line next one reason refused = refused
follows_refused asked queries (AtAssertion form) line next one BadHeader refused = refused one.0 one.1
follows_refused asked queries (AtAssertion form) line next one WrongAssertion refused =
    refused.2 (subst (λ (number : ℕ). IsAsked asked number) (says_once field.Assertion line one.0 refused.0 one.1 refused.1) one.2)
follows_refused asked queries (AtAssertion form) line next one reason refused = refused
follows_refused asked queries (AtVisits form) line next one BadHeader refused = refused one.0 one.1
follows_refused asked queries (AtVisits form) line next one reason refused = refused
follows_refused asked queries (AtWindow form visits) line next one BadHeader refused = refused one.0 one.1
follows_refused asked queries (AtWindow form visits) line next one reason refused = refused
follows_refused asked queries (AtLive form visits window) line next one BadHeader refused = refused one.0 one.1
follows_refused asked queries (AtLive form visits window) line next one reason refused = refused
follows_refused asked queries (AtLast header) line next one BadHeader refused = refused one.0
follows_refused asked queries (AtLast header) line next one reason refused = refused
follows_refused asked queries (InClauses header clauses) line next (inl one) reason refused =
    clause_refused (queries.width header.visits) line one.0 reason one.1 one.2 (among asked queries header clauses line reason refused)
follows_refused asked queries (InClauses header clauses) line next (inr one) reason refused =
    initial_refused (queries.width header.visits) line reason one.0 (among asked queries header clauses line reason refused)
follows_refused asked queries (InSection header clauses section entries) line next (inl one) reason refused =
    taken_refused header section (query_at queries header clauses section) entries line one.0 one.1 one.2 reason
    (inside asked queries header clauses section entries line reason refused)
follows_refused asked queries (InSection header clauses section entries) line next (inr one) reason refused =
    end_refused header section (query_at queries header clauses section) entries line one.0 one.1 reason
    (inside asked queries header clauses section entries line reason refused)
follows_refused asked queries AtEnd line next one reason refused = absurd one

-- two reasons at a line of a section are one
not_lemma : (literals : List ℤ) (hints : List ℕ) (number : ℕ) → Lemma literals hints ≡ Forget number → ⊥
not_lemma literals hints number same = cc

bad_other : (header : Header) (section : Section) (query : Query) (entries : List LogEntry) (line : List ℕ) (entry : LogEntry) → IsBadLine header.form section entries line
    → IsEntryLine header.form line entry → has_empty entries ≡ false → ⊥
bad_other header section query entries line entry (inl bad) is none = bad.1 entry is
bad_other header section query entries line entry (inr bad) is none = true≢false (sym bad.0 ∙ none)

bad_end : (header : Header) (section : Section) (query : Query) (entries : List LogEntry) (line : List ℕ) → IsBadLine header.form section entries line
    → line ≡ end_line section → has_empty entries ≡ false → ⊥
bad_end header section query entries line (inl bad) end none = bad.0 end
bad_end header section query entries line (inr bad) end none = true≢false (sym bad.0 ∙ none)

bad_first : (header : Header) (section : Section) (query : Query) (entries : List LogEntry) (line : List ℕ) (reason : CertReason) → IsBadLine header.form section entries line
    → IsSectionRefused header section query entries line reason → reason ≡ BadLine
bad_first header section query entries line BadHeader bad other = absurd other
bad_first header section query entries line BadLine bad other = refl
bad_first header section query entries line WrongAssertion bad other = absurd other
bad_first header section query entries line LemmaFails bad other = absurd (bad_other header section query entries line (Lemma other.1 other.2) bad other.3 other.0)
bad_first header section query entries line NoEmptyClause bad other = absurd (bad_end header section query entries line bad other.0 other.1)
bad_first header section query entries line EndsInside bad other = absurd other
bad_first header section query entries line TrailingBytes bad other = absurd other
bad_first header section query entries line TooManyLive bad other =
    absurd (bad_other header section query entries line (Lemma other.0 other.1) bad other.2 (passes_none query entries other.0 other.1 other.3))
bad_first header section query entries line BadDrop bad other = absurd (bad_other header section query entries line (Forget other.1) bad other.2 other.0)
bad_first header section query entries line BadClause bad other = absurd other

fails_many : (header : Header) (section : Section) (query : Query) (entries : List LogEntry) (line : List ℕ) → IsSectionRefused header section query entries line LemmaFails
    → IsSectionRefused header section query entries line TooManyLive → ⊥
fails_many header section query entries line fails many =
    let same = entry_same header.form line (Lemma fails.1 fails.2) (Lemma many.0 many.1) fails.3 many.2 in
    by_same fails.1 many.0 fails.2 many.1 same fails.4 many.3
  where
    by_same : (literals others : List ℤ) (hints more : List ℕ) → Lemma literals hints ≡ Lemma others more → (PassesBehind query entries literals hints → ⊥)
        → PassesBehind query entries others more → ⊥
    by_same literals others hints more same fails passes =
        let one : others ≡ literals = cc in
        let two : more ≡ hints = cc in
        fails (subst (λ (hs : List ℕ). PassesBehind query entries literals hs) two (subst (λ (ls : List ℤ). PassesBehind query entries ls more) one passes))

section_once : (header : Header) (section : Section) (query : Query) (entries : List LogEntry) (line : List ℕ) (reason other : CertReason)
    → IsSectionRefused header section query entries line reason → IsSectionRefused header section query entries line other → reason ≡ other
section_once header section query entries line BadLine other one two = sym (bad_first header section query entries line other one two)
section_once header section query entries line reason BadLine one two = bad_first header section query entries line reason two one
section_once header section query entries line LemmaFails LemmaFails one two = refl
section_once header section query entries line LemmaFails NoEmptyClause one two = absurd (no_end header.form section line (Lemma one.1 one.2) one.3 two.0)
section_once header section query entries line LemmaFails TooManyLive one two = absurd (fails_many header section query entries line one two)
section_once header section query entries line LemmaFails BadDrop one two =
    absurd (not_lemma one.1 one.2 two.1 (entry_same header.form line (Lemma one.1 one.2) (Forget two.1) one.3 two.2))
section_once header section query entries line NoEmptyClause LemmaFails one two = absurd (no_end header.form section line (Lemma two.1 two.2) two.3 one.0)
section_once header section query entries line NoEmptyClause NoEmptyClause one two = refl
section_once header section query entries line NoEmptyClause TooManyLive one two = absurd (no_end header.form section line (Lemma two.0 two.1) two.2 one.0)
section_once header section query entries line NoEmptyClause BadDrop one two = absurd (no_end header.form section line (Forget two.1) two.2 one.0)
section_once header section query entries line TooManyLive LemmaFails one two = absurd (fails_many header section query entries line two one)
section_once header section query entries line TooManyLive NoEmptyClause one two = absurd (no_end header.form section line (Lemma one.0 one.1) one.2 two.0)
section_once header section query entries line TooManyLive TooManyLive one two = refl
section_once header section query entries line TooManyLive BadDrop one two =
    absurd (not_lemma one.0 one.1 two.1 (entry_same header.form line (Lemma one.0 one.1) (Forget two.1) one.2 two.2))
section_once header section query entries line BadDrop LemmaFails one two =
    absurd (not_lemma two.1 two.2 one.1 (entry_same header.form line (Lemma two.1 two.2) (Forget one.1) two.3 one.2))
section_once header section query entries line BadDrop NoEmptyClause one two = absurd (no_end header.form section line (Forget one.1) one.2 two.0)
section_once header section query entries line BadDrop TooManyLive one two =
    absurd (not_lemma two.0 two.1 one.1 (entry_same header.form line (Lemma two.0 two.1) (Forget one.1) two.2 one.2))
section_once header section query entries line BadDrop BadDrop one two = refl
section_once header section query entries line LemmaFails other one two = absurd two
section_once header section query entries line NoEmptyClause other one two = absurd two
section_once header section query entries line TooManyLive other one two = absurd two
section_once header section query entries line BadDrop other one two = absurd two
section_once header section query entries line reason other one two = absurd one

-- two reasons at a line among the clauses are one
clause_once : (width : ℕ) (line : List ℕ) (reason other : CertReason) → NoClauseLine line reason ⊎ NamesNoBit width line reason
    → NoClauseLine line other ⊎ NamesNoBit width line other → reason ≡ other
clause_once width line reason other (inl one) (inl two) = one.0 ∙ sym two.0
clause_once width line reason other (inl one) (inr two) = absurd (one.2 two.1 two.2)
clause_once width line reason other (inr one) (inl two) = absurd (two.2 one.1 one.2)
clause_once width line reason other (inr one) (inr two) = one.0 ∙ sym two.0

pub refused_once : (asked : Asked) (queries : Queries) (phase : Phase) (line : List ℕ) (reason other : CertReason) → IsRefusedLine asked queries phase line reason
    → IsRefusedLine asked queries phase line other → reason ≡ other
refused_once asked queries AtVersion line BadHeader BadHeader one two = refl
refused_once asked queries AtVersion line BadHeader other one two = absurd two
refused_once asked queries AtVersion line reason other one two = absurd one
refused_once asked queries (AtAssertion form) line BadHeader BadHeader one two = refl
refused_once asked queries (AtAssertion form) line BadHeader WrongAssertion one two = absurd (one two.0 two.1)
refused_once asked queries (AtAssertion form) line BadHeader other one two = absurd two
refused_once asked queries (AtAssertion form) line WrongAssertion BadHeader one two = absurd (two one.0 one.1)
refused_once asked queries (AtAssertion form) line WrongAssertion WrongAssertion one two = refl
refused_once asked queries (AtAssertion form) line WrongAssertion other one two = absurd two
refused_once asked queries (AtAssertion form) line reason other one two = absurd one
refused_once asked queries (AtVisits form) line BadHeader BadHeader one two = refl
refused_once asked queries (AtVisits form) line BadHeader other one two = absurd two
refused_once asked queries (AtVisits form) line reason other one two = absurd one
refused_once asked queries (AtWindow form visits) line BadHeader BadHeader one two = refl
refused_once asked queries (AtWindow form visits) line BadHeader other one two = absurd two
refused_once asked queries (AtWindow form visits) line reason other one two = absurd one
refused_once asked queries (AtLive form visits window) line BadHeader BadHeader one two = refl
refused_once asked queries (AtLive form visits window) line BadHeader other one two = absurd two
refused_once asked queries (AtLive form visits window) line reason other one two = absurd one
refused_once asked queries (AtLast header) line BadHeader BadHeader one two = refl
refused_once asked queries (AtLast header) line BadHeader other one two = absurd two
refused_once asked queries (AtLast header) line reason other one two = absurd one
refused_once asked queries (InClauses header clauses) line reason other one two =
    clause_once (queries.width header.visits) line reason other (among asked queries header clauses line reason one) (among asked queries header clauses line other two)
refused_once asked queries (InSection header clauses section entries) line reason other one two =
    section_once header section (query_at queries header clauses section) entries line reason other
    (inside asked queries header clauses section entries line reason one) (inside asked queries header clauses section entries line other two)
refused_once asked queries AtEnd line BadHeader other one two = absurd one
refused_once asked queries AtEnd line reason other one two = absurd one
