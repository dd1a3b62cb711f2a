-- A certificate that is written of a proof is passed, where the text and the netlist are as they were.
use Rattle.std.proofs.Common.{◌≡◌, sym, subst, ℕ, zero, suc, ◌≤◌, List, [], ◌∷◌, length, Option, None, Some, Ok, Err, arith, inl, inr}
use Rattle.std.specs.Prelude.{Result, slice_get}
use Rattle.cert_check.specs.Claims.{asked_of, directive_of as directive_at, queries_of}
use Rattle.cert_theory.proofs.OneAnswer.{one_answer}
use Rattle.cert_theory.specs.Sections.{Queries}
use Rattle.cert_theory.specs.Texts.{IsAnswer}
use Rattle.cert_theory.specs.declared.answer.CertAnswer.{CertAnswer}
use Rattle.cert_theory.specs.declared.answer.CertAnswer.TheVariants.{Passed}
use Rattle.cert_theory.specs.declared.header.Asked.{Asked}
use Rattle.command_line.specs.Evidences.{Wanted}
use Rattle.command_line.specs.declared.Limits.{Limits}
use Rattle.findings.specs.Asked.{asked}
use Rattle.findings.specs.Entries.{AreEntries, IsEntry, IsPassedText}
use Rattle.findings.specs.Recordings.{Form}
use Rattle.findings.specs.declared.entry.FindingEntry.{FindingEntry}
use Rattle.netlist.specs.Design.{Design}
use Rattle.prover.specs.declared.options.Options.{Options}
use Rattle.psl_base.specs.Places.{file_limit}
use Rattle.psl_base.specs.Shelf.{Contents}
use Rattle.psl_tree.specs.declared.directive.Directive.{Directive}
use Rattle.commands.proofs.OneAnswer.{SameSubject, one-subject}
use Rattle.commands.proofs.SameChecks.{moved-limit, same-asked, same-found, same-queries}
use Rattle.commands.proofs.SameUnits.{SameUnit}
use Rattle.commands.specs.Checks.{CertReading, CheckStage, Passes}
use Rattle.commands.specs.Provings.{ProveStage, options_of, recordings_in}
use Rattle.commands.specs.Stages.{AndThen, OfContent}
use Rattle.commands.specs.Waves.{CircuitStage, NetlistReading, NetlistStage, SubjectReading, SubjectStage, UnitReading, UnitStage, with_netlist}
use Rattle.commands.specs.declared.outcome.CheckedCert.{CheckedCert}
use Rattle.commands.specs.declared.outcome.Fault.{Fault}
use Rattle.commands.specs.declared.prove.Found.{Found}
use Rattle.commands.specs.declared.subject.Subject.{Subject}

-- stages over contents that are the same where they are read

and-moved : {A B : Type 0} (First First' : Result A Fault → Type 0) (Next Next' : A → Result B Fault → Type 0)
    → ((r : Result A Fault) → First r → First' r) → ((a : A) (r : Result B Fault) → Next a r → Next' a r)
    → (r : Result B Fault) → AndThen First Next r → AndThen First' Next' r
and-moved First First' Next Next' f n r (inl (fault, h, e)) = inl (fault, f (Err fault) h, e)
and-moved First First' Next Next' f n r (inr (a, h, k)) = inr (a, f (Ok a) h, n a r k)

module _ (unit netlist : List ℕ) (files later : Contents) (units : later unit ≡ files unit) (netlists : later netlist ≡ files netlist) where
  circuit-moved : (r : Result _ Fault) → CircuitStage unit netlist later r → CircuitStage unit netlist files r
  circuit-moved r h =
      and-moved (UnitStage unit later) (UnitStage unit files)
      (λ tree result. AndThen (NetlistStage netlist later) (λ design other. other ≡ Ok (with_netlist tree design)) result)
      (λ tree result. AndThen (NetlistStage netlist files) (λ design other. other ≡ Ok (with_netlist tree design)) result)
      (λ x is. subst (λ (o : Option (List ℕ)). OfContent (UnitReading unit) unit o x) units is)
      (λ tree x is. and-moved (NetlistStage netlist later) (NetlistStage netlist files)
      (λ design other. other ≡ Ok (with_netlist tree design)) (λ design other. other ≡ Ok (with_netlist tree design))
      (λ y at. subst (λ (o : Option (List ℕ)). OfContent (NetlistReading netlist) netlist o y) netlists at) (λ design y at. at) x is)
      r h

  subject-moved : (r : Result Subject Fault) → SubjectStage unit netlist later r → SubjectStage unit netlist files r
  subject-moved r h =
      and-moved (CircuitStage unit netlist later) (CircuitStage unit netlist files) (SubjectReading unit) (SubjectReading unit)
      circuit-moved (λ circuit x is. is) r h

-- one of the findings

entry-at : (design : Design) (unit : List Directive) (options : Options) (wanted : Option Form) (some : List Directive) (entries : List FindingEntry) (place : ℕ) (entry : FindingEntry)
    → AreEntries design unit options wanted some entries → slice_get entries place ≡ Some entry → (a : Directive) × IsEntry design unit options wanted a entry
entry-at design unit options wanted some [] place entry are is = absurd (let wrong : None ≡ Some entry = is in cc)
entry-at design unit options wanted [] (e ∷ es) place entry are is = absurd are
entry-at design unit options wanted (a ∷ more) (e ∷ es) zero entry are is =
    let same : e ≡ entry = cc in (a, subst (IsEntry design unit options wanted a) same are.0)
entry-at design unit options wanted (a ∷ more) (e ∷ es) (suc place) entry are is = entry-at design unit options wanted more es place entry are.1 is

module _ (design : Design) (u v : List Directive) (s : SameUnit u v) (number : ℕ) (text : List ℕ) where
  same-answer : (answer : CertAnswer) → IsAnswer (asked_of u number) (queries_of design u number) text answer
      → IsAnswer (asked_of v number) (queries_of design v number) text answer
  same-answer answer is =
      subst (λ (q : Queries). IsAnswer (asked_of v number) q text answer)
      (same-queries design u v s (directive_at u number) (directive_at v number) (same-found u v number s))
      (subst (λ (a : Asked). IsAnswer a (queries_of design u number) text answer) (same-asked u v number s) is)

passed-of : (unit netlist : List ℕ) (design : Design) (u v : List Directive) (number : ℕ) (text : List ℕ) (result : Result CheckedCert Fault) → SameUnit u v
    → IsPassedText design u number text → CertReading unit netlist number (record { netlist = design; directives = v }) text result
    → Passes result
passed-of unit netlist design u v number text (Ok checked) s passed is =
    one_answer (asked_of v number) (queries_of design v number) text checked.answer Passed is.answers
    (same-answer design u v s number text Passed passed.passed)
passed-of unit netlist design u v number text (Err fault) s passed is =
    absurd (passed.checked is.limit (moved-limit design v u (sym s) number text is.limit is.passes))

passed-by : (unit netlist : List ℕ) (i j : Subject) (number : ℕ) (text : List ℕ) (result : Result CheckedCert Fault) → SameSubject i j
    → IsPassedText i.netlist i.directives number text → CertReading unit netlist number j text result → Passes result
passed-by unit netlist i j number text result same passed is =
    passed-of unit netlist j.netlist i.directives j.directives number text result same.directives
    (subst (λ (d : Design). IsPassedText d i.directives number text) same.netlists passed) is

of-content : (unit netlist certificate : List ℕ) (i j : Subject) (number : ℕ) (text : List ℕ) (result : Result CheckedCert Fault) → SameSubject i j
    → IsPassedText i.netlist i.directives number text → length text ≤ file_limit
    → OfContent (CertReading unit netlist number j) certificate (Some text) result → Passes result
of-content unit netlist certificate i j number text result same passed few (inl (many, _)) = absurd (omega arith)
of-content unit netlist certificate i j number text result same passed few (inr (_, is)) = passed-by unit netlist i j number text result same passed is

-- the text is that of a certificate by which some finding is proved, of a window or of clauses
module _ (unit netlist certificate : List ℕ) (limits : Limits) (wanted : Wanted) (files later : Contents) (found : Found) (place : ℕ) (entry : FindingEntry) (text : List ℕ)
    (here : slice_get found.findings place ≡ Some entry)
    (proves : (design : Design) (directives : List Directive) (options : Options) (recordings : Option Form) (directive : Directive)
    → IsEntry design directives options recordings directive entry → IsPassedText design directives entry.number text)
    (units : later unit ≡ files unit) (netlists : later netlist ≡ files netlist) (written : later certificate ≡ Some text)
    (few : length text ≤ file_limit) where
  checked : (subject : Subject) → SubjectStage unit netlist files (Ok subject) → IsPassedText subject.netlist subject.directives entry.number text
      → (result : Result CheckedCert Fault) → CheckStage unit netlist entry.number certificate later result → Passes result
  checked subject is passed result (inl (fault, refused, _)) =
      absurd (one-subject unit netlist files (Ok subject) (Err fault) is (subject-moved unit netlist files later units netlists (Err fault) refused))
  checked subject is passed result (inr (other, given, read)) =
      of-content unit netlist certificate subject other entry.number text result
      (one-subject unit netlist files (Ok subject) (Ok other) is (subject-moved unit netlist files later units netlists (Ok other) given)) passed few
      (subst (λ (o : Option (List ℕ)). OfContent (CertReading unit netlist entry.number other) certificate o result) written read)

  pub written-passes : ProveStage unit netlist limits wanted files (Ok found) → (result : Result CheckedCert Fault)
      → CheckStage unit netlist entry.number certificate later result → Passes result
  written-passes (inl (fault, _, e)) result check = absurd (let wrong : Ok found ≡ Err fault = e in cc)
  written-passes (inr (subject, is, about)) result check =
      let at = entry-at subject.netlist subject.directives (options_of limits) (recordings_in wanted) (asked limits.covers subject.directives) found.findings place entry about.1.findings here in
      checked subject is (proves subject.netlist subject.directives (options_of limits) (recordings_in wanted) at.0 at.1) result check
