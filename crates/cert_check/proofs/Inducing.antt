-- The clauses of a certificate that is read, and their formulas.
use Rattle.std.proofs.Common.{◌≡◌, ap, sym, subst, ℕ, ℤ, List, [], refl}
use Rattle.clauses.specs.declared.cnf.Cnf.{Cnf}
use Rattle.alternating_theory.specs.Obligations.{Automaton}
use Rattle.cert_theory.specs.declared.answer.CertAnswer.{CertAnswer}
use Rattle.cert_theory.specs.declared.answer.CertAnswer.TheVariants.{Refused}
use Rattle.cert_theory.specs.declared.header.Asked.{Asked}
use Rattle.cert_theory.specs.declared.header.Header.{Header}
use Rattle.cert_theory.specs.declared.header.Section.{Section}
use Rattle.cert_theory.specs.declared.header.Section.TheVariants.{Initial, Step, Bad}
use Rattle.cert_theory.specs.Phases.Phase.{AtEnd, InClauses, InSection}
use Rattle.cert_theory.specs.Sections.{Query}
use Rattle.cert_theory.proofs.ClausesOnce.{one_clauses}
use Rattle.cert_lines.specs.Clauses.{AreClauses, HasNoClauses, IsRefusedAmong}
use Rattle.cert_lines.specs.Readings.{IsAt}
use Rattle.cert_lines.specs.Sections.{IsRefusedIn, StandsBehind, query_of}
use Rattle.cert_lines.specs.declared.reading.Reading.{Reading}
use Rattle.cert_lines.specs.declared.reading.Refusal.{Refusal}
use Rattle.joint.specs.Joined.{Joined}
use Rattle.joint_theory.specs.Bits.{joint_width}
use Rattle.netlist.specs.Design.{Design}
use Rattle.cert_check.specs.Claims.{AnswersAt, bad_query, initial_query, queries_for, step_query}
use Rattle.cert_check.specs.Limits.{AreClausesTooLarge, ClausesFrom, FewClauses, IsFormulaFault, ManyClauses}
use Rattle.psl_tree.specs.declared.limit.LimitFault.{LimitFault}
use Rattle.cert_check.proofs.Sizes.{IsOf, fault_for, query_is}

module _ (design : Design) (automaton : Automaton) (header : Header) (begin : Reading) where
  -- a line among the clauses is refused
  pub among_answers : (refusal : Refusal) → IsRefusedAmong (joint_width design automaton header.visits) begin refusal
      → AnswersAt design automaton (InClauses header []) begin (Refused refusal.reason refusal.line)
  among_answers refusal refused = λ asked text at. refused asked (queries_for design automaton) text header refl at

  pub none_few : HasNoClauses (joint_width design automaton header.visits) begin → FewClauses design automaton header begin
  none_few none = λ asked text clauses at has large. none asked (queries_for design automaton) text header header clauses refl at has

  module _ (clauses : List (List ℤ)) (reading : Reading) (are : AreClauses (joint_width design automaton header.visits) begin clauses reading) where
    at_word : (asked : Asked) (text : List ℕ) → IsAt asked (queries_for design automaton) text (InClauses header []) begin
        → IsAt asked (queries_for design automaton) text (InSection header clauses Initial []) reading
    at_word asked text at = are asked (queries_for design automaton) text header refl at

    -- they are the text's
    pub read_clauses_are : ClausesFrom design automaton header begin clauses
    read_clauses_are = λ asked text at.
        let there = at_word asked text at in
        record { lines = there.lines; rest = reading.rest.now; reaches = there.reaches }

    pub clauses_answer : (answer : CertAnswer) → AnswersAt design automaton (InSection header clauses Initial []) reading answer
        → AnswersAt design automaton (InClauses header []) begin answer
    clauses_answer answer answers = λ asked text at. answers asked text (at_word asked text at)

    pub clauses_few : (AreClausesTooLarge design automaton header.visits clauses → ⊥) → FewClauses design automaton header begin
    clauses_few few = λ asked text others at has large.
        few (subst (λ cs. AreClausesTooLarge design automaton header.visits cs)
        (one_clauses asked (queries_for design automaton) text header header others clauses has (read_clauses_are asked text at)) large)

    pub clauses_fault : (fault : LimitFault) → IsFormulaFault (AreClausesTooLarge design automaton header.visits clauses) fault
        → IsFormulaFault (ManyClauses design automaton header begin) fault
    clauses_fault fault cause =
        fault_for (AreClausesTooLarge design automaton header.visits clauses) (ManyClauses design automaton header begin) fault
        (λ large. (clauses, read_clauses_are, large)) cause

-- the joint states that were made
pub joined_fault : (design : Design) (automaton : Automaton) (visits : ℕ) (clauses : List (List ℤ)) (joint : Joined)
    → joint ≡ record { design = design; automaton = automaton; visits = visits } → (fault : LimitFault)
    → IsFormulaFault (AreClausesTooLarge joint.design joint.automaton joint.visits clauses) fault → IsFormulaFault (AreClausesTooLarge design automaton visits clauses) fault
joined_fault design automaton visits clauses joint is fault cause =
    subst (λ (j : Joined). IsFormulaFault (AreClausesTooLarge j.design j.automaton j.visits clauses) fault) is cause

-- the lines of a section, by the formula that was built
module _ (header : Header) (section : Section) (query : Query) (formula : Cnf) (of : IsOf query formula) where
  pub section_stands : (old new : Reading) → StandsBehind header section (query_of formula) old new → StandsBehind header section query old new
  section_stands old new stands = subst (λ (q : Query). StandsBehind header section q old new) (sym (query_is query formula of)) stands

-- the three sections, one behind the other
module _ (joint : Joined) (header : Header) (clauses : List (List ℤ)) (same : joint.visits ≡ header.visits) where
  initial_at : initial_query joint.design joint.automaton header.visits clauses ≡ initial_query joint.design joint.automaton joint.visits clauses
  initial_at = ap (λ (visits : ℕ). initial_query joint.design joint.automaton visits clauses) (sym same)

  step_at : step_query joint.design joint.automaton header.visits clauses ≡ step_query joint.design joint.automaton joint.visits clauses
  step_at = ap (λ (visits : ℕ). step_query joint.design joint.automaton visits clauses) (sym same)

  bad_at : bad_query joint.design joint.automaton header.visits clauses ≡ bad_query joint.design joint.automaton joint.visits clauses
  bad_at = ap (λ (visits : ℕ). bad_query joint.design joint.automaton visits clauses) (sym same)

  module _ (begin first : Reading) where
    pub initial_answers : (refusal : Refusal) → IsRefusedIn header Initial (initial_query joint.design joint.automaton joint.visits clauses) begin refusal
        → AnswersAt joint.design joint.automaton (InSection header clauses Initial []) begin (Refused refusal.reason refusal.line)
    initial_answers refusal refused = λ asked text at. refused asked (queries_for joint.design joint.automaton) text clauses initial_at at

    module _ (stands : StandsBehind header Initial (initial_query joint.design joint.automaton joint.visits clauses) begin first) where
      behind_initial : (asked : Asked) (text : List ℕ) → IsAt asked (queries_for joint.design joint.automaton) text (InSection header clauses Initial []) begin
          → IsAt asked (queries_for joint.design joint.automaton) text (InSection header clauses Step []) first
      behind_initial asked text at = stands asked (queries_for joint.design joint.automaton) text clauses initial_at at

      pub step_answers : (refusal : Refusal) → IsRefusedIn header Step (step_query joint.design joint.automaton joint.visits clauses) first refusal
          → AnswersAt joint.design joint.automaton (InSection header clauses Initial []) begin (Refused refusal.reason refusal.line)
      step_answers refusal refused = λ asked text at.
          refused asked (queries_for joint.design joint.automaton) text clauses step_at (behind_initial asked text at)

      module _ (second : Reading) (next : StandsBehind header Step (step_query joint.design joint.automaton joint.visits clauses) first second) where
        behind_step : (asked : Asked) (text : List ℕ) → IsAt asked (queries_for joint.design joint.automaton) text (InSection header clauses Initial []) begin
            → IsAt asked (queries_for joint.design joint.automaton) text (InSection header clauses Bad []) second
        behind_step asked text at = next asked (queries_for joint.design joint.automaton) text clauses step_at (behind_initial asked text at)

        pub bad_answers : (refusal : Refusal) → IsRefusedIn header Bad (bad_query joint.design joint.automaton joint.visits clauses) second refusal
            → AnswersAt joint.design joint.automaton (InSection header clauses Initial []) begin (Refused refusal.reason refusal.line)
        bad_answers refusal refused = λ asked text at.
            refused asked (queries_for joint.design joint.automaton) text clauses bad_at (behind_step asked text at)

        pub end_answers : (last : Reading) (answer : CertAnswer) → StandsBehind header Bad (bad_query joint.design joint.automaton joint.visits clauses) second last
            → AnswersAt joint.design joint.automaton AtEnd last answer → AnswersAt joint.design joint.automaton (InSection header clauses Initial []) begin answer
        end_answers last answer third answers = λ asked text at.
            answers asked text (third asked (queries_for joint.design joint.automaton) text clauses bad_at (behind_step asked text at))
