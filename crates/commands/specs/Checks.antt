-- What `check UNIT NETLIST NUMBER CERTIFICATE` gives: whether the text of a certificate shows that each run of the netlist
-- satisfies what is owed of the directive of that number, an assertion or a cover.
use Rattle.std.specs.Prelude.{◌≡◌, ℕ, List, Option, None, Some, Result, Ok, Err}
use Rattle.cert_check.specs.Claims.{IsProved, asked_of, directive_of, queries_of}
use Rattle.cert_check.specs.Limits.{ClausesIn, FitsLimits, PassesLimit}
use Rattle.cert_theory.specs.Headers.{HasHeader}
use Rattle.cert_theory.specs.Texts.{IsAnswer}
use Rattle.cert_theory.specs.declared.answer.CertAnswer.TheVariants.{Passed}
use Rattle.cert_theory.specs.declared.header.Header.{Header}
use Rattle.psl_tree.specs.declared.limit.Limit.{Limit}
use Rattle.psl_base.specs.Shelf.{Contents}
use Rattle.psl_tree.specs.declared.directive.Directive.{Directive}
use Rattle.psl_tree.specs.declared.directive.Kind.{Kind}
use Rattle.psl_tree.specs.declared.directive.Kind.TheVariants.{Assert, Assume, Cover}
use Rattle.commands.specs.Diagnostics.{limit_fault}
use Rattle.commands.specs.Stages.{OfFile, Then}
use Rattle.commands.specs.Waves.{SubjectStage}
use Rattle.commands.specs.declared.outcome.CheckedCert.{CheckedCert}
use Rattle.commands.specs.declared.outcome.Fault.{Fault}
use Rattle.commands.specs.declared.subject.Subject.{Subject}

-- as what a directive is answered for: a cover as one, and all else as an assertion
abbrev pub answered_as : Kind → Kind
answered_as Assert = Assert
answered_as Assume = Assert
answered_as Cover = Cover

-- so is the directive of a number, and that there is none
abbrev pub answered_kind : Option Directive → Kind
answered_kind None = Assert
answered_kind (Some directive) = answered_as directive.kind

-- what is answered to a text
pub record IsChecked (subject : Subject) (number : ℕ) (content : List ℕ) (checked : CheckedCert) : Type 0 where
  pub kind : checked.kind ≡ answered_kind (directive_of subject.directives number)
  -- that no line is refused, or the first line that is
  pub answers : IsAnswer (asked_of subject.directives number) (queries_of subject.netlist subject.directives number) content checked.answer
  -- behind a header that is not refused, the limits are kept
  pub fits : (header : Header) (directive : Directive) → HasHeader (asked_of subject.directives number) content header
      → directive_of subject.directives number ≡ Some directive
      → FitsLimits subject.netlist subject.directives directive header (ClausesIn subject.netlist subject.directives number content header)
  -- where no line is refused, each run of the netlist satisfies what is owed of the directive
  pub proved : checked.answer ≡ Passed → IsProved subject.netlist subject.directives number

-- the text passes a limit behind a header that is not refused, and this is told of it
pub record IsUnchecked (unit netlist : List ℕ) (number : ℕ) (subject : Subject) (content : List ℕ) (fault : Fault) : Type 0 where
  pub limit : Limit
  pub passes : PassesLimit subject.netlist subject.directives number content limit
  pub fault_is : fault ≡ limit_fault unit netlist subject.directives number limit

abbrev pub CertReading : List ℕ → List ℕ → ℕ → Subject → List ℕ → Result CheckedCert Fault → Type 0
CertReading unit netlist number subject content (Ok checked) = IsChecked subject number content checked
CertReading unit netlist number subject content (Err fault) = IsUnchecked unit netlist number subject content fault

-- the certificate in a file
abbrev pub CertStage : List ℕ → List ℕ → ℕ → List ℕ → Subject → Contents → Result CheckedCert Fault → Type 0
CertStage unit netlist number certificate subject = OfFile (CertReading unit netlist number subject) certificate

-- `check UNIT NETLIST NUMBER CERTIFICATE`
abbrev pub CheckStage : List ℕ → List ℕ → ℕ → List ℕ → Contents → Result CheckedCert Fault → Type 0
CheckStage unit netlist number certificate = Then (SubjectStage unit netlist) (CertStage unit netlist number certificate)

-- it was checked, and no line is refused
abbrev pub Passes : Result CheckedCert Fault → Type 0
Passes (Ok checked) = checked.answer ≡ Passed
Passes (Err fault) = ⊥
