-- The directive of a number, and what is claimed of it.
use Rattle.std.proofs.Common.{◌≡◌, ◌∙◌, sym, subst, ℕ, Bool, true, false, cond, List, [], ◌∷◌, Option, Some}
use Rattle.std.specs.Prelude.{◌==◌}
use Rattle.std.specs.List.{All, find}
use Rattle.std.proofs.lemmas.List.Elements.{All-head, All-tail}
use Rattle.alternating_theory.specs.Obligations.{Automaton}
use Rattle.cert_theory.specs.declared.answer.CertAnswer.{CertAnswer}
use Rattle.cert_theory.specs.declared.header.Asked.{Asked}
use Rattle.cert_theory.specs.declared.header.Header.{Header}
use Rattle.cert_theory.specs.declared.header.Form.{Form}
use Rattle.cert_theory.specs.declared.header.Form.TheVariants.{Windowed, Clausal}
use Rattle.cert_theory.specs.Headers.{HasHeader}
use Rattle.cert_theory.proofs.HeaderLines.{header_once}
use Rattle.cert_theory.specs.Phases.{behind_form, behind_header}
use Rattle.cert_theory.specs.Sections.{Queries}
use Rattle.cert_theory.specs.Texts.{HasClauses, IsAnswer}
use Rattle.cert_lines.specs.Readings.{IsAt}
use Rattle.cert_lines.specs.declared.reading.Reading.{Reading}
use Rattle.netlist.specs.Design.{Design}
use Rattle.owed.specs.Owed.{plain_owed}
use Rattle.owed.specs.Violations.{violation_of}
use Rattle.psl_tree.specs.declared.directive.Directive.{Directive}
use Rattle.owed.specs.Sized.{IsSized}
use Rattle.cert_check.specs.Claims.{AnswersBehind, asked_of, directive_of, queries_by, queries_for, queries_of}
use Rattle.cert_check.specs.Limits.{ClausesIn, FitsFrom, FitsLimits, IsFault, IsFaultBehind, IsFaultFrom, IsFormulaFault, IsLargeFrom, IsLargeIn, IsLimitBehind, IsSmallFrom}
use Rattle.psl_tree.specs.declared.limit.Limit.{Limit}
use Rattle.psl_tree.specs.declared.limit.Limit.TheVariants.{Sere, Automaton as OfAutomaton, Unroll, Formula as OfFormula}
use Rattle.psl_tree.specs.declared.limit.LimitFault.{LimitFault}
use Rattle.psl_tree.specs.declared.limit.LimitFault.TheVariants.{TooLarge, NoMemory}

-- what holds of each element holds of one that is found
by_test : (P : Directive → Type 0) (b : Bool) (first directive : Directive) (rest : Option Directive) → P first → (rest ≡ Some directive → P directive)
    → cond b (Some first) rest ≡ Some directive → P directive
by_test P true first directive rest here there same = let is : first ≡ directive = cc in subst P is here
by_test P false first directive rest here there same = there same

found_is : (P : Directive → Type 0) (test : Directive → Bool) (unit : List Directive) (directive : Directive) → All P unit → find test unit ≡ Some directive → P directive
found_is P test [] directive all is = cc
found_is P test (first ∷ unit) directive all is =
    by_test P (test first) first directive (find test unit) (All-head P first unit all) (found_is P test unit directive (All-tail P first unit all)) is

pub directive_in : (P : Directive → Type 0) (unit : List Directive) (number : ℕ) (directive : Directive) → All P unit → directive_of unit number ≡ Some directive → P directive
directive_in P unit number directive all is = found_is P (λ (d : Directive). d.number == number) unit directive all is

-- a header that was read
pub moved_header : (asked wanted : Asked) (text bytes : List ℕ) (header : Header) → asked ≡ wanted → text ≡ bytes → HasHeader wanted bytes header → HasHeader asked text header
moved_header asked wanted text bytes header same is has =
    subst (λ (a : Asked). HasHeader a text header) (sym same) (subst (λ (t : List ℕ). HasHeader wanted t header) (sym is) has)

-- what was built behind a header, by its form
small_in : (form : Form) (design : Design) (automaton : Automaton) (header : Header) (reading : Reading) (asked : Asked) (text : List ℕ)
    → IsSmallFrom form design automaton header reading → IsAt asked (queries_for design automaton) text (behind_form form header) reading
    → IsLargeIn form design automaton header (HasClauses asked (queries_for design automaton) text header) → ⊥
small_in (Windowed version) design automaton header reading asked text small at large = small large
small_in Clausal design automaton header reading asked text small at large = small asked text large.0 at large.1 large.2

large_in : (form : Form) (design : Design) (automaton : Automaton) (header : Header) (reading : Reading) (asked : Asked) (text : List ℕ)
    → IsLargeFrom form design automaton header reading → IsAt asked (queries_for design automaton) text (behind_form form header) reading
    → IsLargeIn form design automaton header (HasClauses asked (queries_for design automaton) text header)
large_in (Windowed version) design automaton header reading asked text large at = large
large_in Clausal design automaton header reading asked text large at = (large.0, large.1 asked text at, large.2)

module _ (design : Design) (unit : List Directive) (directive : Directive) (automaton : Automaton) (is : automaton ≡ violation_of unit directive) (header : Header)
    (sized : IsSized design header.window (plain_owed unit directive)) (reading : Reading) where
  fault_at : (fault : LimitFault) (asked : Asked) (text : List ℕ) → IsFormulaFault (IsLargeFrom header.form design (violation_of unit directive) header reading) fault
      → IsAt asked (queries_for design (violation_of unit directive)) text (behind_header header) reading
      → IsFaultBehind design unit directive header (HasClauses asked (queries_for design (violation_of unit directive)) text header) fault
  fault_at (TooLarge Sere) asked text cause at = absurd cause
  fault_at (TooLarge OfAutomaton) asked text cause at = absurd cause
  fault_at (TooLarge Unroll) asked text cause at = absurd cause
  fault_at (TooLarge OfFormula) asked text cause at = (sized, large_in header.form design (violation_of unit directive) header reading asked text cause at)
  fault_at NoMemory asked text cause at = tt

  pub fault_behind : (fault : LimitFault) → IsFormulaFault (IsLargeFrom header.form design automaton header reading) fault → IsFaultFrom design unit directive header reading fault
  fault_behind fault cause = λ asked text at.
      fault_at fault asked text (subst (λ (a : Automaton). IsFormulaFault (IsLargeFrom header.form design a header reading) fault) is cause) at

  pub fits_behind : IsSmallFrom header.form design automaton header reading → FitsFrom design unit directive header reading
  fits_behind few = λ asked text at. record {
    sized = sized;
    formulas = λ large. small_in header.form design (violation_of unit directive) header reading asked text
        (subst (λ (a : Automaton). IsSmallFrom header.form design a header reading) is few) at large;
  }

  pub answers_behind : (answer : CertAnswer) → AnswersBehind design automaton header reading answer
      → AnswersBehind design (violation_of unit directive) header reading answer
  answers_behind answer answers = subst (λ (a : Automaton). AnswersBehind design a header reading answer) is answers

-- the answer to the whole text
pub whole_answer : (design : Design) (unit : List Directive) (directive : Directive) (found : Option Directive) (asked wanted : Asked) (text bytes : List ℕ) (header : Header)
    (reading : Reading) (answer : CertAnswer) → found ≡ Some directive → asked ≡ wanted → text ≡ bytes
    → ((queries : Queries) → IsAt asked queries text (behind_header header) reading) → AnswersBehind design (violation_of unit directive) header reading answer
    → IsAnswer wanted (queries_by design unit found) bytes answer
whole_answer design unit directive found asked wanted text bytes header reading answer is same rest at answers =
    subst (λ (f : Option Directive). IsAnswer wanted (queries_by design unit f) bytes answer) (sym is)
    (subst (λ (t : List ℕ). IsAnswer wanted (queries_for design (violation_of unit directive)) t answer) rest
    (subst (λ (a : Asked). IsAnswer a (queries_for design (violation_of unit directive)) text answer) same
    (answers asked text (at (queries_for design (violation_of unit directive))))))

-- the limits of the header and the directive that there are
pub same_limits : (design : Design) (unit : List Directive) (number : ℕ) (asked : Asked) (text bytes : List ℕ) (header other : Header) (directive first : Directive) (reading : Reading)
    → asked ≡ asked_of unit number → text ≡ bytes → HasHeader asked text other → Some first ≡ directive_of unit number
    → ((queries : Queries) → IsAt asked queries text (behind_header other) reading) → FitsFrom design unit first other reading
    → HasHeader (asked_of unit number) bytes header → directive_of unit number ≡ Some directive
    → FitsLimits design unit directive header (ClausesIn design unit number bytes header)
same_limits design unit number asked text bytes header other directive first reading same is has there at fits wants finds =
    let one : other ≡ header = header_once asked text other header has (moved_header asked (asked_of unit number) text bytes header same is wants) in
    let both : Some first ≡ Some directive = there ∙ finds in
    let two : first ≡ directive = cc in
    let here : FitsLimits design unit first other (HasClauses asked (queries_for design (violation_of unit first)) text other) =
    fits asked text (at (queries_for design (violation_of unit first))) in
    let by_found : FitsLimits design unit first other (HasClauses asked (queries_of design unit number) text other) =
    subst (λ (f : Option Directive). FitsLimits design unit first other (HasClauses asked (queries_by design unit f) text other)) there here in
    let by_asked : FitsLimits design unit first other (HasClauses (asked_of unit number) (queries_of design unit number) text other) =
    subst (λ (a : Asked). FitsLimits design unit first other (HasClauses a (queries_of design unit number) text other)) same by_found in
    let by_text : FitsLimits design unit first other (ClausesIn design unit number bytes other) =
    subst (λ (t : List ℕ). FitsLimits design unit first other (HasClauses (asked_of unit number) (queries_of design unit number) t other)) is by_asked in
    subst (λ (d : Directive). FitsLimits design unit d header (ClausesIn design unit number bytes header)) two
    (subst (λ (h : Header). FitsLimits design unit first h (ClausesIn design unit number bytes h)) one by_text)

-- the limit that is passed
module _ (design : Design) (unit : List Directive) (number : ℕ) (asked : Asked) (text bytes : List ℕ) (header : Header) (directive : Directive) (reading : Reading)
    (same : asked ≡ asked_of unit number) (is : text ≡ bytes) (has : HasHeader asked text header) (there : Some directive ≡ directive_of unit number)
    (at : (queries : Queries) → IsAt asked queries text (behind_header header) reading) where
  same_behind : (limit : Limit) → IsFaultFrom design unit directive header reading (TooLarge limit)
      → IsLimitBehind design unit directive header (ClausesIn design unit number bytes header) limit
  same_behind limit fault_is =
      let here : IsLimitBehind design unit directive header (HasClauses asked (queries_for design (violation_of unit directive)) text header) limit =
      fault_is asked text (at (queries_for design (violation_of unit directive))) in
      let by_found : IsLimitBehind design unit directive header (HasClauses asked (queries_of design unit number) text header) limit =
      subst (λ (f : Option Directive). IsLimitBehind design unit directive header (HasClauses asked (queries_by design unit f) text header) limit) there here in
      let by_asked : IsLimitBehind design unit directive header (HasClauses (asked_of unit number) (queries_of design unit number) text header) limit =
      subst (λ (a : Asked). IsLimitBehind design unit directive header (HasClauses a (queries_of design unit number) text header) limit) same by_found in
      subst (λ (t : List ℕ). IsLimitBehind design unit directive header (HasClauses (asked_of unit number) (queries_of design unit number) t header) limit) is by_asked

  pub same_fault : (fault : LimitFault) → IsFaultFrom design unit directive header reading fault → IsFault design unit number bytes fault
  same_fault (TooLarge limit) fault_is = record {
    header = header;
    directive = directive;
    has = subst (λ (t : List ℕ). HasHeader (asked_of unit number) t header) is (subst (λ (a : Asked). HasHeader a text header) same has);
    is = sym there;
    limit_is = same_behind limit fault_is;
  }
  same_fault NoMemory fault_is = tt
