-- The text of a certificate that the prover gives is passed, and passes no limit of the checker.
use Rattle.std.proofs.Common.{◌≡◌, ◌⊎◌, ◌∙◌, refl, sym, ap, subst, ℕ, ℤ, suc, ◌*◌, ◌<◌, ◌≤◌, List, [], ◌∷◌, ◌++◌, Option, Some, Result, Ok, Err, inl, inr, arith}
use Rattle.std.specs.Prelude.{IfOk, IfErr}
use Rattle.std.proofs.lemmas.Nat.{mul-le}
use Rattle.std.proofs.lemmas.Option.{same_Some}
use Rattle.cdcl.specs.Evidence as solver
use Rattle.cert_check.specs.Claims.{asked_of, directive_of, has_claim, queries_by, queries_of}
use Rattle.cert_check.specs.Limits.{ClausesIn, IsFault, IsLimitBehind, PassesLimit}
use Rattle.psl_tree.specs.declared.limit.LimitFault.{LimitFault}
use Rattle.psl_tree.specs.declared.limit.LimitFault.TheVariants.{TooLarge, NoMemory}
use Rattle.psl_tree.specs.declared.limit.Limit.{Limit}
use Rattle.psl_tree.specs.declared.limit.Limit.TheVariants.{Sere, Automaton as OfAutomaton, Unroll, Formula as OfFormula}
use Rattle.cert_theory.proofs.HeaderLines.{header_once}
use Rattle.cert_theory.proofs.OneAnswer.{one_answer}
use Rattle.cert_theory.specs.Headers.{HasHeader, MayBe}
use Rattle.cert_theory.specs.Printed.{cert_text, header_of}
use Rattle.cert_theory.specs.Sections.{NamesLive, Query}
use Rattle.cert_theory.specs.Texts.{IsAnswer}
use Rattle.cert_theory.specs.declared.answer.CertAnswer.{CertAnswer}
use Rattle.cert_theory.specs.declared.answer.CertAnswer.TheVariants.{Passed}
use Rattle.cert_theory.specs.declared.certificate.Certificate.{Certificate}
use Rattle.cert_theory.specs.declared.header.Field.TheVariants.{Assertion}
use Rattle.cert_theory.specs.declared.header.Header.{Header}
use Rattle.cert_theory.specs.declared.header.Version.{Version}
use Rattle.cert_text.proofs.Passing.{text_header, text_passes}
use Rattle.cert_text.specs.Evidence.{EachDrop, IsEvidence, IsRefuted}
use Rattle.clauses.specs.Logs.{LogEntry}
use Rattle.clauses.specs.Logs.LogEntry.{Lemma, Forget}
use Rattle.clauses.specs.declared.flat.TheConstants.{MOST_VARIABLES}
use Rattle.gates.specs.declared.limits.TheConstants.{MOST_WORK}
use Rattle.netlist.specs.Design.{Design}
use Rattle.owed.specs.Owed.{plain_owed}
use Rattle.prover.specs.Findings.{IsFinding}
use Rattle.prover.specs.Proving as found
use Rattle.prover.specs.Proving.{IsProved}
use Rattle.prover.specs.Queries.{clauses_of, variables_of}
use Rattle.prover.specs.Tasks.{IsProvable}
use Rattle.prover.specs.declared.finding.Finding.{Finding}
use Rattle.prover.specs.declared.finding.Finding.TheVariants.{Proved}
use Rattle.prover.specs.declared.finding.Query as asked
use Rattle.prover.specs.declared.finding.Query.TheVariants.{Base, Induction}
use Rattle.prover.specs.declared.options.Options.{Options}
use Rattle.prover.specs.declared.task.Task.{Task}
use Rattle.psl_tree.specs.declared.directive.Directive.{Directive}
use Rattle.owed.specs.Sized.{IsSized, bulk_of}
use Rattle.findings.specs.Asked.{IsAskedOf}
use Rattle.findings.specs.Entries.{IsPassedFor, IsPassedText}

-- what a law of the solver says of drops
pub drops-live : (query : Query) (before log : List LogEntry) → solver.DropsLive query.clauses before log → EachDrop (NamesLive query) before log
drops-live query before [] drops = tt
drops-live query before (Lemma literals hints ∷ log) drops = drops-live query (before ++ Lemma literals hints ∷ []) log drops
drops-live query before (Forget number ∷ log) drops = (drops.0, drops-live query (before ++ Forget number ∷ []) log drops.1)

-- a smaller window takes no more work
pub less-work : (w d bulk : ℕ) → w ≤ d → suc w * suc w * bulk ≤ suc d * suc d * bulk
less-work w d bulk le =
    let more : suc w ≤ suc d = omega (arith, le) in
    mul-le (suc w * suc w) bulk (suc d * suc d) bulk (mul-le (suc w) (suc w) (suc d) (suc d) more more) (omega arith)

module _ (design : Design) (unit : List Directive) (d : Directive) (options : Options) where
  -- a log of the solver shows it
  refuted : (query : asked.Query) (log : List LogEntry) → found.IsRefuted design unit d options.steps query log
      → IsRefuted (record { variables = variables_of design unit d query; clauses = clauses_of design unit d query }) log
  refuted query log is =
      let few : MOST_VARIABLES < variables_of design unit d query → ⊥ = λ many. is.fits (inl many) in
      record {
        variables = omega (arith, few);
        words = is.words;
        refutes = is.refutes;
        drops_live = drops-live (record { variables = variables_of design unit d query; clauses = clauses_of design unit d query }) [] log is.tidy.drops_live;
        empty_last = is.tidy.empty_last;
      }

  -- so the certificate is evidence
  evidence : IsAskedOf unit d → d.number ≤ 4294967295 → options.visits ≤ 16 → options.depth ≤ 1000
      → (certificate : Certificate) → IsProved design unit d options certificate
      → IsEvidence (asked_of unit d.number) (queries_of design unit d.number) certificate
  evidence numbered few visits depth certificate proved = record {
    is_asked = (proved.number, ap has_claim numbered.is ∙ numbered.kind);
    number = subst (MayBe Assertion) (sym proved.number) (record { least = numbered.some; most = few });
    visits = record { least = omega arith; most = omega (arith, proved.visits, visits) };
    window = record { least = proved.some; most = omega (arith, proved.within, depth) };
    base =
        subst (λ (f : Option Directive). IsRefuted ((queries_by design unit f).base certificate.visits certificate.window) certificate.base) (sym numbered.is)
        (refuted (Base certificate.visits certificate.window) certificate.base proved.base);
    induction =
        subst (λ (f : Option Directive). IsRefuted ((queries_by design unit f).induction certificate.visits certificate.window) certificate.induction) (sym numbered.is)
        (refuted (Induction certificate.visits certificate.window) certificate.induction proved.induction);
  }

  -- what it says of itself passes no limit
  within-limits : IsSized design options.depth (plain_owed unit d) → (version : Version) (certificate : Certificate) → IsProved design unit d options certificate
      → (behind : List (List ℤ) → Type 0) (limit : Limit) → IsLimitBehind design unit d (header_of version certificate) behind limit → ⊥
  within-limits sized version certificate proved behind Sere cause = sized.sequences cause
  within-limits sized version certificate proved behind OfAutomaton cause =
      let few = sized.obligations in let many = cause.1 in omega (arith, few, many)
  within-limits sized version certificate proved behind Unroll cause =
      let bulk = bulk_of design (plain_owed unit d) in
      let few : suc options.depth * suc options.depth * bulk ≤ MOST_WORK = sized.unrolled in
      let many : MOST_WORK < suc certificate.window * suc certificate.window * bulk = cause.2 in
      omega (arith, few, many, less-work certificate.window options.depth bulk proved.within)
  within-limits sized version certificate proved behind OfFormula cause = elim cause.1 as (λ _. ⊥) [
    | inl large ↦ proved.base.fits large
    | inr large ↦ proved.induction.fits large
  ]

  -- a limit that is passed is passed by its own header
  pub no-limit : directive_of unit d.number ≡ Some d → (text : List ℕ) (says : Header) → HasHeader (asked_of unit d.number) text says
      → ((limit : Limit) → IsLimitBehind design unit d says (ClausesIn design unit d.number text says) limit → ⊥)
      → (limit : Limit) → PassesLimit design unit d.number text limit → ⊥
  no-limit there text says has none limit cause =
      let header : cause.header ≡ says = header_once (asked_of unit d.number) text cause.header says cause.has has in
      let directive : cause.directive ≡ d = same_Some cause.directive d (sym cause.is ∙ there) in
      none limit
      (subst (λ (e : Directive). IsLimitBehind design unit e says (ClausesIn design unit d.number text says) limit) directive
      (subst (λ (h : Header). IsLimitBehind design unit cause.directive h (ClausesIn design unit d.number text h) limit) header cause.limit_is))

-- what is found of a task
pub passed-for : (task : Task) → IsProvable task → IsAskedOf task.unit.now task.directive.now → task.options.depth ≤ 1000 → task.directive.now.number ≤ 4294967295
    → (finding : Finding) → IsFinding task.netlist.now task.unit.now task.directive.now task.options finding
    → (certificate : Certificate) → finding ≡ Proved certificate → IsPassedFor task.netlist.now task.unit.now task.directive.now.number certificate
passed-for task provable numbered depth few finding is certificate same = λ version.
    let design = task.netlist.now in
    let unit = task.unit.now in
    let d = task.directive.now in
    let text = cert_text version certificate in
    let says = header_of version certificate in
    let proved : IsProved design unit d task.options certificate = subst (IsFinding design unit d task.options) same is in
    let shows = evidence design unit d task.options numbered few provable.visits depth certificate proved in
    record {
      passed = text_passes (asked_of unit d.number) (queries_of design unit d.number) version certificate shows;
      checked = no-limit design unit d task.options numbered.is text says (text_header (asked_of unit d.number) (queries_of design unit d.number) version certificate shows)
          (within-limits design unit d task.options provable.sized version certificate proved (ClausesIn design unit d.number text says));
    }

-- so it is passed by whoever answers as the checker does
pub result-passed : (design : Design) (unit : List Directive) (number : ℕ) (text : List ℕ) → IsPassedText design unit number text
    → (result : Result CertAnswer LimitFault)
    → IfOk result (IsAnswer (asked_of unit number) (queries_of design unit number) text)
    → IfErr result (IsFault design unit number text)
    → (result ≡ Ok Passed) ⊎ (result ≡ Err NoMemory)
result-passed design unit number text is (Ok answer) answers fails =
    inl (ap (λ (a : CertAnswer). Ok a) (one_answer (asked_of unit number) (queries_of design unit number) text answer Passed answers is.passed))
result-passed design unit number text is (Err (TooLarge limit)) answers fails = absurd (is.checked limit fails)
result-passed design unit number text is (Err NoMemory) answers fails = inr refl
