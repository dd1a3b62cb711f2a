-- The clauses of a certificate, line by line.
use Rattle.std.proofs.Common.{◌≡◌, inl, inr, ◌∙◌, ap, sym, subst, ℕ, ℤ, ◌+◌, ◌*◌, ◌<◌, ◌≤◌, true, List, [], ◌∷◌, ◌++◌, length, arith, refl, length-append}
use Rattle.std.specs.Bool.{IsTrue}
use Rattle.std.proofs.lemmas.Bool.{and_from}
use Rattle.std.proofs.lemmas.List.Folds.{list_all-append}
use Rattle.std.proofs.lemmas.List.Sums.{sum_by_push}
use Rattle.psl_base.specs.Places.{file_limit}
use Rattle.clauses.specs.Literals.{clause_within, clause_words, clauses_within, words_with}
use Rattle.clauses.specs.declared.flat.TheConstants.{MOST_WORDS}
use Rattle.cert_theory.specs.declared.answer.CertReason.{CertReason}
use Rattle.cert_theory.specs.declared.answer.CertReason.TheVariants.{BadHeader, BadLine, WrongAssertion, LemmaFails, NoEmptyClause, EndsInside, TrailingBytes, TooManyLive, BadDrop, BadClause}
use Rattle.cert_theory.specs.declared.header.Asked.{Asked}
use Rattle.cert_theory.specs.declared.header.Header.{Header}
use Rattle.cert_theory.specs.declared.header.Section.TheVariants.{Initial}
use Rattle.cert_theory.specs.Lines.{IsClauseLine}
use Rattle.cert_theory.specs.Phases.{IsClauseRefused, IsRefusedLine, NamesBits}
use Rattle.cert_theory.specs.Phases.Phase.{InClauses, InSection}
use Rattle.cert_theory.specs.Sections.{Queries}
use Rattle.cert_lines.specs.declared.entries.LineStep.TheVariants as steps
use Rattle.cert_lines.specs.declared.reading.Reading.{Reading}
use Rattle.cert_lines.specs.declared.reading.Refusal.{Refusal}
use Rattle.cert_lines.specs.Clauses.{AreClauses, BecomesClause, HasNoClauses, IsRefusedAmong}
use Rattle.cert_lines.specs.Readings.{IsAt, IsCutAt, IsRefusedBy, Takes}
use Rattle.cert_lines.proofs.Blocking.{blocked_by, no_clauses}
use Rattle.cert_lines.proofs.Holding.{literals_long}
use Rattle.cert_lines.proofs.Moving.{at_next, cut_at, refused_next}

-- some clauses were read
pub record ClausesAt (width : ℕ) (begin reading : Reading) (clauses : List (List ℤ)) : Type 0 where
  pub at : (asked : Asked) (queries : Queries) (text : List ℕ) (header : Header) → queries.width header.visits ≡ width
      → IsAt asked queries text (InClauses header []) begin → IsAt asked queries text (InClauses header clauses) reading
  pub within : IsTrue (clauses_within width clauses)
  pub room : 2 * clause_words clauses + length reading.rest.now ≤ file_limit

-- none was
pub none_read : (width : ℕ) (begin : Reading) → ClausesAt width begin begin []
none_read width begin = record {
  at = λ asked queries text header same at. at;
  within = refl;
  room = omega (arith, begin.some, begin.few);
}

-- the words of a clause and the bytes of its line
pub clause_long : (clauses : List (List ℤ)) (line : List ℕ) (clause : List ℤ) → IsClauseLine line clause
    → 2 * clause_words (clauses ++ clause ∷ []) ≤ 2 * clause_words clauses + length line + 1
clause_long clauses line clause is =
    omega (
      arith,
      sum_by_push (λ (c : List ℤ). length c + 1) clauses clause,
      literals_long clause is.has,
      ap (λ (text : List ℕ). length text) is.is,
    )

pub never_large : (clauses : List (List ℤ)) (line : List ℕ) (clause : List ℤ) → IsClauseLine line clause → 2 * clause_words clauses + length line < file_limit
    → MOST_WORDS < words_with clauses clause → ⊥
never_large clauses line clause is few many =
    omega (arith, few, many, literals_long clause is.has, ap (λ (text : List ℕ). length text) is.is)

module _ (width : ℕ) (begin reading : Reading) (clauses : List (List ℤ)) (so_far : ClausesAt width begin reading clauses) where
  -- the bytes that are left
  pub has_room : (line : List ℕ) (new : Reading) → Takes line reading new → 2 * clause_words clauses + length line + 1 + length new.rest.now ≤ file_limit
  has_room line new takes = omega (arith, so_far.room, ap length takes.is, length-append line (10 ∷ new.rest.now))

  -- one more is read
  pub clause_next : (line : List ℕ) (new : Reading) (after : List (List ℤ)) → Takes line reading new → BecomesClause width clauses line steps.Taken after
      → 2 * clause_words after ≤ 2 * clause_words clauses + length line + 1 → ClausesAt width begin new after
  clause_next line new after takes becomes bytes = record {
    at = λ asked queries text header same at.
        subst (λ read. IsAt asked queries text (InClauses header read) new) (sym becomes.3)
        (at_next asked queries text (InClauses header clauses) (InClauses header (clauses ++ becomes.0 ∷ [])) line reading new (so_far.at asked queries text header same at) takes
        (inl (becomes.0, becomes.1, subst (λ (bits : ℕ). NamesBits bits becomes.0) (sym same) becomes.2, refl)));
    within = subst (λ read. IsTrue (clauses_within width read)) (sym becomes.3)
        (list_all-append (clause_within width) clauses (becomes.0 ∷ [])
        ∙ and_from (clauses_within width clauses) (clauses_within width (becomes.0 ∷ [])) so_far.within (and_from (clause_within width becomes.0) true becomes.2 refl));
    room = omega (arith, bytes, has_room line new takes);
  }

  -- the clauses end
  pub clauses_end : (line : List ℕ) (new : Reading) (after : List (List ℤ)) → Takes line reading new → BecomesClause width clauses line steps.End after
      → AreClauses width begin after new
  clauses_end line new after takes becomes = λ asked queries text header same at.
      subst (λ read. IsAt asked queries text (InSection header read Initial []) new) (sym becomes.1)
      (at_next asked queries text (InClauses header clauses) (InSection header clauses Initial []) line reading new (so_far.at asked queries text header same at) takes
      (inr (becomes.0, refl)))

  -- and name state bits
  pub all_within : (line : List ℕ) (after : List (List ℤ)) → BecomesClause width clauses line steps.End after → IsTrue (clauses_within width after)
  all_within line after becomes = subst (λ read. IsTrue (clauses_within width read)) (sym becomes.1) so_far.within

  -- there is no line more
  pub clauses_cut : (refusal : Refusal) → IsCutAt reading refusal → IsRefusedAmong width begin refusal
  clauses_cut refusal cut = λ asked queries text header same at.
      cut_at asked queries text (InClauses header clauses) reading refusal (so_far.at asked queries text header same at) refl cut

  outside : (asked : Asked) (queries : Queries) (header : Header) (line : List ℕ) (reason : CertReason)
      → IsClauseRefused (queries.width header.visits) line reason → IsRefusedLine asked queries (InClauses header clauses) line reason
  outside asked queries header line BadHeader refused = refused
  outside asked queries header line BadLine refused = refused
  outside asked queries header line WrongAssertion refused = refused
  outside asked queries header line LemmaFails refused = refused
  outside asked queries header line NoEmptyClause refused = refused
  outside asked queries header line EndsInside refused = refused
  outside asked queries header line TrailingBytes refused = refused
  outside asked queries header line TooManyLive refused = refused
  outside asked queries header line BadDrop refused = refused
  outside asked queries header line BadClause refused = refused

  -- a line is refused
  pub clause_refused : (line : List ℕ) (new : Reading) (reason : CertReason) (refusal : Refusal) → Takes line reading new
      → IsClauseRefused width line reason → refusal.reason ≡ reason → refusal.line ≡ reading.line → IsRefusedAmong width begin refusal
  clause_refused line new reason refusal takes becomes reason_is line_is = λ asked queries text header same at.
      refused_next asked queries text (InClauses header clauses) reading line new.rest.now refusal.reason refusal.line (so_far.at asked queries text header same at)
      takes.is takes.whole
      (subst (λ (r : CertReason). IsRefusedLine asked queries (InClauses header clauses) line r) (sym reason_is)
      (outside asked queries header line reason (subst (λ (bits : ℕ). IsClauseRefused bits line reason) (sym same) becomes)))
      line_is

  -- so the text has no clauses
  none_by : (refusal : Refusal) → IsRefusedBy (IsClauseRefused width) reading refusal → HasNoClauses width begin
  none_by refusal by = λ asked queries text header other others same at has.
      no_clauses asked queries text header other clauses others reading (so_far.at asked queries text header same at)
      (blocked_by asked queries (InClauses header clauses) (IsClauseRefused width) reading refusal
      (λ line reason refused. outside asked queries header line reason (subst (λ (bits : ℕ). IsClauseRefused bits line reason) (sym same) refused)) by)
      has

  pub none_cut : (refusal : Refusal) → IsCutAt reading refusal → HasNoClauses width begin
  none_cut refusal cut = none_by refusal (inl cut)

  pub none_refused : (line : List ℕ) (new : Reading) (reason : CertReason) (refusal : Refusal) → Takes line reading new
      → IsClauseRefused width line reason → refusal.reason ≡ reason → refusal.line ≡ reading.line → HasNoClauses width begin
  none_refused line new reason refusal takes becomes reason_is line_is = none_by refusal (inr (record {
    line = line;
    behind = new.rest.now;
    is = takes.is;
    whole = takes.whole;
    refused = subst (λ (r : CertReason). IsClauseRefused width line r) (sym reason_is) becomes;
    number = line_is;
  }))
