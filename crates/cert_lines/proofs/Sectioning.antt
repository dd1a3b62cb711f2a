-- A section, line by line.
use Rattle.std.proofs.Common.{◌≡◌, inl, inr, ◌∙◌, ap, sym, subst, ℕ, ℤ, ◌+◌, ◌≤◌, List, [], ◌∷◌, ◌++◌, length, arith, refl, length-append}
use Rattle.psl_base.specs.Places.{file_limit}
use Rattle.clauses.specs.Logs.{LogEntry}
use Rattle.cert_theory.specs.declared.answer.CertReason.{CertReason}
use Rattle.cert_theory.specs.declared.answer.CertReason.TheVariants.{BadHeader, BadLine, WrongAssertion, LemmaFails, NoEmptyClause, EndsInside, TrailingBytes, TooManyLive, BadDrop, BadClause}
use Rattle.cert_theory.specs.declared.header.Asked.{Asked}
use Rattle.cert_theory.specs.declared.header.Header.{Header}
use Rattle.cert_theory.specs.declared.header.Section.{Section}
use Rattle.cert_theory.specs.Lines.{end_line}
use Rattle.cert_theory.specs.Phases.{IsRefusedLine, behind_section}
use Rattle.cert_theory.specs.Phases.Phase.{InSection}
use Rattle.cert_theory.specs.Sections.{IsEntryLine, IsSectionRefused, IsTaken, Queries, Query, query_at}
use Rattle.cert_lines.specs.declared.entries.LineStep.TheVariants as steps
use Rattle.cert_lines.specs.declared.entries.SectionChecker.{SectionChecker}
use Rattle.cert_lines.specs.declared.reading.Reading.{Reading}
use Rattle.cert_lines.specs.declared.reading.Refusal.{Refusal}
use Rattle.cert_lines.specs.Readings.{IsAt, IsCutAt, Takes}
use Rattle.cert_lines.specs.Sections.{Becomes, Holds, IsRefusedIn, StandsBehind, taken_bytes}
use Rattle.cert_lines.proofs.Moving.{at_next, cut_at, refused_next}

-- some entries of the section were taken
pub record SectionAt (header : Header) (section : Section) (query : Query) (begin reading : Reading) (checker : SectionChecker) : Type 0 where
  pub entries : List LogEntry
  pub holds : Holds query entries checker
  pub header_is : checker.header ≡ header
  pub section_is : checker.section ≡ section
  pub at : (asked : Asked) (queries : Queries) (text : List ℕ) (clauses : List (List ℤ)) → query_at queries header clauses section ≡ query
      → IsAt asked queries text (InSection header clauses section []) begin → IsAt asked queries text (InSection header clauses section entries) reading
  pub room : taken_bytes checker + length reading.rest.now ≤ file_limit

-- none was
pub none_taken : (header : Header) (section : Section) (query : Query) (begin : Reading) (checker : SectionChecker) → Holds query [] checker → checker.header ≡ header
    → checker.section ≡ section → taken_bytes checker ≡ 0 → SectionAt header section query begin begin checker
none_taken header section query begin checker holds header_is section_is bytes = record {
  entries = [];
  holds = holds;
  header_is = header_is;
  section_is = section_is;
  at = λ asked queries text clauses same at. at;
  room = omega (arith, bytes, begin.some, begin.few);
}

module _ (header : Header) (section : Section) (query : Query) (begin reading : Reading) (checker : SectionChecker) (so_far : SectionAt header section query begin reading checker) where
  -- the bytes that are left
  pub has_room : (line : List ℕ) (new : Reading) → Takes line reading new → taken_bytes checker + length line + 1 + length new.rest.now ≤ file_limit
  has_room line new takes = omega (arith, so_far.room, ap length takes.is, length-append line (10 ∷ new.rest.now))

  -- one more is taken
  pub entry_next : (line : List ℕ) (new : Reading) (after : SectionChecker) → Takes line reading new → Becomes checker query so_far.entries line steps.Taken after
      → after.header ≡ checker.header → after.section ≡ checker.section → taken_bytes after ≤ taken_bytes checker + length line + 1
      → SectionAt header section query begin new after
  entry_next line new after takes becomes header_is section_is bytes = record {
    entries = so_far.entries ++ becomes.0 ∷ [];
    holds = becomes.3;
    header_is = header_is ∙ so_far.header_is;
    section_is = section_is ∙ so_far.section_is;
    at = λ asked queries text clauses same at.
        at_next asked queries text (InSection header clauses section so_far.entries) (InSection header clauses section (so_far.entries ++ becomes.0 ∷ [])) line reading new
        (so_far.at asked queries text clauses same at) takes
        (inl (
          becomes.0,
          subst (λ (h : Header). IsEntryLine h.form line becomes.0) so_far.header_is becomes.1,
          subst (λ (q : Query). IsTaken header q so_far.entries becomes.0) (sym same)
              (subst (λ (h : Header). IsTaken h query so_far.entries becomes.0) so_far.header_is becomes.2),
          refl,
        ));
    room = omega (arith, bytes, has_room line new takes);
  }

  -- the section ends
  pub section_ends : (line : List ℕ) (new : Reading) (after : SectionChecker) → Takes line reading new → Becomes checker query so_far.entries line steps.End after
      → StandsBehind header section query begin new
  section_ends line new after takes becomes = λ asked queries text clauses same at.
      at_next asked queries text (InSection header clauses section so_far.entries) (behind_section header clauses section) line reading new (so_far.at asked queries text clauses same at) takes
      (inr (subst (λ (s : Section). line ≡ end_line s) so_far.section_is becomes.0, becomes.1, refl))

  -- there is no line more
  pub section_cut : (refusal : Refusal) → IsCutAt reading refusal → IsRefusedIn header section query begin refusal
  section_cut refusal cut = λ asked queries text clauses same at.
      cut_at asked queries text (InSection header clauses section so_far.entries) reading refusal (so_far.at asked queries text clauses same at) refl cut

  outside : (asked : Asked) (queries : Queries) (clauses : List (List ℤ)) (entries : List LogEntry) (line : List ℕ) (reason : CertReason)
      → IsSectionRefused header section (query_at queries header clauses section) entries line reason → IsRefusedLine asked queries (InSection header clauses section entries) line reason
  outside asked queries clauses entries line BadHeader refused = refused
  outside asked queries clauses entries line BadLine refused = refused
  outside asked queries clauses entries line WrongAssertion refused = refused
  outside asked queries clauses entries line LemmaFails refused = refused
  outside asked queries clauses entries line NoEmptyClause refused = refused
  outside asked queries clauses entries line EndsInside refused = refused
  outside asked queries clauses entries line TrailingBytes refused = refused
  outside asked queries clauses entries line TooManyLive refused = refused
  outside asked queries clauses entries line BadDrop refused = refused
  outside asked queries clauses entries line BadClause refused = refused

  -- a line is refused
  pub section_refused : (line : List ℕ) (new : Reading) (after : SectionChecker) (reason : CertReason) (refusal : Refusal) → Takes line reading new
      → Becomes checker query so_far.entries line (steps.Refused reason) after → refusal.reason ≡ reason → refusal.line ≡ reading.line
      → IsRefusedIn header section query begin refusal
  section_refused line new after reason refusal takes becomes reason_is line_is = λ asked queries text clauses same at.
      refused_next asked queries text (InSection header clauses section so_far.entries) reading line new.rest.now refusal.reason refusal.line (so_far.at asked queries text clauses same at)
      takes.is takes.whole
      (subst (λ (r : CertReason). IsRefusedLine asked queries (InSection header clauses section so_far.entries) line r) (sym reason_is)
      (outside asked queries clauses so_far.entries line reason
      (subst (λ (q : Query). IsSectionRefused header section q so_far.entries line reason) (sym same)
      (subst (λ (s : Section). IsSectionRefused header s query so_far.entries line reason) so_far.section_is
      (subst (λ (h : Header). IsSectionRefused h checker.section query so_far.entries line reason) so_far.header_is becomes)))))
      line_is
