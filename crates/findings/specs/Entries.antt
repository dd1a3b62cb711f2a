-- What is found out of the directives of a text that are asked.
use Rattle.std.specs.Prelude.{◌≡◌, ℕ, Bool as Truth, List, [], ◌∷◌, Option}
use Rattle.cert_check.specs.Claims.{asked_of, queries_of}
use Rattle.cert_check.specs.Limits.{PassesLimit}
use Rattle.cert_theory.specs.Printed.{cert_text, inductive_text}
use Rattle.cert_theory.specs.Texts.{IsAnswer}
use Rattle.cert_theory.specs.declared.answer.CertAnswer.TheVariants.{Passed}
use Rattle.cert_theory.specs.declared.certificate.Certificate.{Certificate}
use Rattle.cert_theory.specs.declared.certificate.InductiveCert.{InductiveCert}
use Rattle.cert_theory.specs.declared.header.Version.{Version}
use Rattle.netlist.specs.Design.{Design}
use Rattle.psl_tree.specs.declared.limit.Limit.{Limit}
use Rattle.prover.specs.Findings.{IsFinding}
use Rattle.prover.specs.declared.finding.Finding.TheVariants.{Proved, ProvedReach}
use Rattle.prover.specs.declared.options.Options.{Options}
use Rattle.psl_tree.specs.declared.directive.Directive.{Directive}
use Rattle.findings.specs.Asked.{asked}
use Rattle.findings.specs.Recordings.{Form, IsRecorded}
use Rattle.findings.specs.declared.entry.FindingEntry.{FindingEntry}

-- A text is passed for the directive of a number: no line of it is refused. Nor does it pass a limit: it is checked, unless
-- memory is refused.
pub record IsPassedText (design : Design) (unit : List Directive) (number : ℕ) (text : List ℕ) : Type 0 where
  pub passed : IsAnswer (asked_of unit number) (queries_of design unit number) text Passed
  pub checked : (limit : Limit) → PassesLimit design unit number text limit → ⊥

-- so is that of a certificate, in either version
abbrev pub IsPassedFor : Design → List Directive → ℕ → Certificate → Type 0
IsPassedFor design unit number certificate = (version : Version) → IsPassedText design unit number (cert_text version certificate)

-- the finding of a directive of the text, with its evidence; where it is proved, the certificate is passed, be it of a
-- window or of clauses
pub record IsEntry (design : Design) (unit : List Directive) (options : Options) (wanted : Option Form) (directive : Directive)
    (entry : FindingEntry) : Type 0 where
  pub kind : entry.kind ≡ directive.kind
  pub number : entry.number ≡ directive.number
  pub label : entry.label ≡ directive.label
  pub finding : IsFinding design unit directive options entry.finding
  pub recorded : IsRecorded design directive wanted entry.finding entry.recorded
  pub passed : (certificate : Certificate) → entry.finding ≡ Proved certificate
      → IsPassedFor design unit entry.number certificate
  pub passed_reach : (certificate : InductiveCert) → entry.finding ≡ ProvedReach certificate
      → IsPassedText design unit entry.number (inductive_text certificate)

-- one for each of some directives, in order
abbrev pub AreEntries : Design → List Directive → Options → Option Form → List Directive → List FindingEntry → Type 0
AreEntries design unit options wanted [] [] = Unit {0}
AreEntries design unit options wanted (directive ∷ directives) (entry ∷ entries) =
    IsEntry design unit options wanted directive entry × AreEntries design unit options wanted directives entries
AreEntries design unit options wanted _ _ = ⊥

-- one for each directive of the text that is asked
abbrev pub AreFindings : Design → List Directive → Options → Truth → Option Form → List FindingEntry → Type 0
AreFindings design unit options covers wanted entries = AreEntries design unit options wanted (asked covers unit) entries
