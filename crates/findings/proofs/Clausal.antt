-- The text of a certificate of clauses that the prover gives is passed, and passes no limit of the checker.
use Rattle.std.proofs.Common.{◌≡◌, ◌∙◌, sym, ap, subst, ℕ, ℤ, suc, ◌*◌, ◌<◌, ◌≤◌, List, [], ◌++◌, Option, inl, inr, arith, append_assoc}
use Rattle.std.specs.Bool.{IsTrue}
use Rattle.cert_check.specs.Claims.{asked_of, bad_query, initial_query, has_claim, queries_by, queries_of, step_query}
use Rattle.cert_check.specs.Limits.{AreClausesTooLarge, ClausesIn, IsLimitBehind}
use Rattle.psl_tree.specs.declared.limit.Limit.{Limit}
use Rattle.psl_tree.specs.declared.limit.Limit.TheVariants.{Sere, Automaton as OfAutomaton, Unroll, Formula as OfFormula}
use Rattle.cert_theory.proofs.ClausesOnce.{one_clauses}
use Rattle.cert_theory.proofs.HeaderLines.{header_lacks}
use Rattle.cert_theory.specs.Headers.{MayBe}
use Rattle.cert_theory.specs.Lines.{header_lines, lines_text}
use Rattle.cert_theory.specs.Phases.Phase.{AtVersion, InClauses, InSection}
use Rattle.cert_theory.specs.Printed.{clause_lines, inductive_header, inductive_text, log_lines_of}
use Rattle.cert_theory.specs.Sections.{Queries}
use Rattle.cert_theory.specs.Texts.{HasClauses}
use Rattle.cert_theory.specs.declared.certificate.InductiveCert.{InductiveCert}
use Rattle.cert_theory.specs.declared.header.Asked.{Asked}
use Rattle.cert_theory.specs.declared.header.Field.TheVariants.{Assertion}
use Rattle.cert_theory.specs.declared.header.Section.TheVariants.{Initial}
use Rattle.cert_text.proofs.Following.{clauses_follow, clauses_whole, followed}
use Rattle.cert_text.proofs.Inducing.{inductive_begins, inductive_passes}
use Rattle.cert_text.proofs.Joining.{lines_text-append}
use Rattle.cert_text.proofs.Passing.{both_whole, front_follows}
use Rattle.cert_text.specs.Evidence.{IsInductiveEvidence, IsRefuted}
use Rattle.gates_theory.specs.Sizes.{IsTooLarge}
use Rattle.clauses.specs.Literals.{clauses_within}
use Rattle.clauses.specs.Logs.{LogEntry}
use Rattle.clauses.specs.declared.flat.TheConstants.{MOST_VARIABLES}
use Rattle.gates.specs.declared.limits.TheConstants.{MOST_WORK}
use Rattle.joint.specs.Joined.{Joined}
use Rattle.joint_theory.specs.Bits.{joint_width}
use Rattle.joint_theory.specs.Reaching.{bad_variables}
use Rattle.netlist.specs.Design.{Design}
use Rattle.owed.specs.Owed.{plain_owed}
use Rattle.owed.specs.Violations.{violation_of}
use Rattle.prover.specs.Ends.{joint_of}
use Rattle.prover.specs.Findings.{IsFinding}
use Rattle.prover.specs.Proving.{IsProvedReach}
use Rattle.prover.specs.Tasks.{IsProvable}
use Rattle.prover.specs.declared.finding.Finding.{Finding}
use Rattle.prover.specs.declared.finding.Finding.TheVariants.{ProvedReach}
use Rattle.prover.specs.declared.options.Options.{Options}
use Rattle.prover.specs.declared.task.Task.{Task}
use Rattle.psl_tree.specs.declared.directive.Directive.{Directive}
use Rattle.reach.specs.Answers as reached
use Rattle.reach.specs.Formulas.{clauses_of, variables_of}
use Rattle.reach_frames.specs.declared.stop.ReachQuery as asked
use Rattle.reach_frames.specs.declared.stop.ReachQuery.TheVariants as queries
use Rattle.owed.specs.Sized.{IsSized, bulk_of}
use Rattle.findings.specs.Asked.{IsAskedOf}
use Rattle.findings.specs.Entries.{IsPassedText}
use Rattle.findings.proofs.Certified.{drops-live, less-work, no-limit}
use Rattle.findings.proofs.JointSizes.{few-bits, small-circuit}

-- a log of the search shows it
refuted : (joined : Joined) (steps : ℕ) (query : asked.ReachQuery) (log : List LogEntry) → reached.IsRefuted joined steps query log
    → IsRefuted (record { variables = variables_of joined query; clauses = clauses_of joined query }) log
refuted joined steps query log is =
    let few : MOST_VARIABLES < variables_of joined query → ⊥ = λ many. is.fits (inl many) in
    record {
      variables = omega (arith, few);
      words = is.words;
      refutes = is.refutes;
      drops_live = drops-live (record { variables = variables_of joined query; clauses = clauses_of joined query }) [] log is.tidy.drops_live;
      empty_last = is.tidy.empty_last;
    }

-- the clauses of the text are those of the certificate
has-clauses : (asks : Asked) (shows : Queries) (certificate : InductiveCert) → IsInductiveEvidence asks shows certificate
    → HasClauses asks shows (inductive_text certificate) (inductive_header certificate) certificate.clauses
has-clauses asks shows certificate evidence =
    let says = inductive_header certificate in
    let header = header_lines certificate.assertion says in
    let clauses = clause_lines certificate.clauses in
    let logs = log_lines_of certificate in
    let numbers = (inductive_begins asks shows certificate evidence).numbers in
    record {
      lines = header ++ clauses;
      rest = lines_text logs;
      reaches = record {
        is = ap lines_text (sym (append_assoc header clauses logs)) ∙ lines_text-append (header ++ clauses) logs;
        whole = both_whole header clauses (header_lacks certificate.assertion says evidence.number numbers)
            (clauses_whole (shows.width certificate.visits) certificate.clauses evidence.bits evidence.within);
        follow = followed asks shows AtVersion (InClauses says []) (InSection says certificate.clauses Initial []) header clauses
            (front_follows asks shows certificate.assertion says evidence.is_asked evidence.number numbers)
            (clauses_follow asks shows says certificate.clauses evidence.bits evidence.within);
      };
    }

module _ (design : Design) (unit : List Directive) (d : Directive) (options : Options) (certificate : InductiveCert) (proved : IsProvedReach design unit d options certificate) where
  abbrev joined : Joined
  joined = joint_of design unit d certificate.visits

  -- the checker's names of the formulas, opened

  initial-refuted : IsRefuted (record { variables = variables_of joined (queries.Initial certificate.clauses); clauses = clauses_of joined (queries.Initial certificate.clauses) }) certificate.initial
      → IsRefuted (initial_query design (violation_of unit d) certificate.visits certificate.clauses) certificate.initial
  unfolding initial_query
  initial-refuted is = is

  initial-large : IsTooLarge (initial_query design (violation_of unit d) certificate.visits certificate.clauses).variables
      (initial_query design (violation_of unit d) certificate.visits certificate.clauses).clauses
      → IsTooLarge (variables_of joined (queries.Initial certificate.clauses)) (clauses_of joined (queries.Initial certificate.clauses))
  unfolding initial_query
  initial-large large = large

  step-refuted : IsRefuted (record { variables = variables_of joined (queries.Step certificate.clauses); clauses = clauses_of joined (queries.Step certificate.clauses) }) certificate.step
      → IsRefuted (step_query design (violation_of unit d) certificate.visits certificate.clauses) certificate.step
  unfolding step_query
  step-refuted is = is

  step-large : IsTooLarge (step_query design (violation_of unit d) certificate.visits certificate.clauses).variables
      (step_query design (violation_of unit d) certificate.visits certificate.clauses).clauses
      → IsTooLarge (variables_of joined (queries.Step certificate.clauses)) (clauses_of joined (queries.Step certificate.clauses))
  unfolding step_query
  step-large large = large

  bad-refuted : IsRefuted (record { variables = variables_of joined (queries.Bad certificate.clauses); clauses = clauses_of joined (queries.Bad certificate.clauses) }) certificate.bad
      → IsRefuted (bad_query design (violation_of unit d) certificate.visits certificate.clauses) certificate.bad
  unfolding bad_query
  bad-refuted is = is

  bad-large : IsTooLarge (bad_query design (violation_of unit d) certificate.visits certificate.clauses).variables
      (bad_query design (violation_of unit d) certificate.visits certificate.clauses).clauses
      → IsTooLarge (variables_of joined (queries.Bad certificate.clauses)) (clauses_of joined (queries.Bad certificate.clauses))
  unfolding bad_query
  bad-large large = large

  -- the certificate is evidence
  evidence : IsAskedOf unit d → d.number ≤ 4294967295 → options.visits ≤ 16
      → IsInductiveEvidence (asked_of unit d.number) (queries_of design unit d.number) certificate
  evidence numbered few visits =
      let small : MOST_VARIABLES < bad_variables design (violation_of unit d) certificate.visits → ⊥ = λ many. proved.inductive.bad.fits (inl many) in
      let bits : joint_width design (violation_of unit d) certificate.visits ≤ MOST_VARIABLES =
      omega (arith, small, few-bits design (violation_of unit d) certificate.visits) in
      record {
        is_asked = (proved.number, ap has_claim numbered.is ∙ numbered.kind);
        number = subst (MayBe Assertion) (sym proved.number) (record { least = numbered.some; most = few });
        visits = record { least = omega arith; most = omega (arith, proved.visits, visits) };
        bits = subst (λ (f : Option Directive). (queries_by design unit f).width certificate.visits ≤ MOST_VARIABLES) (sym numbered.is) bits;
        within =
            subst (λ (f : Option Directive). IsTrue (clauses_within ((queries_by design unit f).width certificate.visits) certificate.clauses)) (sym numbered.is)
            proved.inductive.within;
        initial =
            subst (λ (f : Option Directive). IsRefuted ((queries_by design unit f).initial certificate.visits certificate.clauses) certificate.initial) (sym numbered.is)
            (initial-refuted (refuted joined options.steps (queries.Initial certificate.clauses) certificate.initial proved.inductive.initial));
        step =
            subst (λ (f : Option Directive). IsRefuted ((queries_by design unit f).step certificate.visits certificate.clauses) certificate.step) (sym numbered.is)
            (step-refuted (refuted joined options.steps (queries.Step certificate.clauses) certificate.step proved.inductive.step));
        bad =
            subst (λ (f : Option Directive). IsRefuted ((queries_by design unit f).bad certificate.visits certificate.clauses) certificate.bad) (sym numbered.is)
            (bad-refuted (refuted joined options.steps (queries.Bad certificate.clauses) certificate.bad proved.inductive.bad));
      }

  -- neither the circuit nor a formula is too large
  none-large : options.visits ≤ 16 → AreClausesTooLarge design (violation_of unit d) certificate.visits certificate.clauses → ⊥
  none-large visits (inl large) =
      small-circuit design (violation_of unit d) certificate.visits certificate.clauses (omega (arith, proved.visits, visits)) proved.inductive.step.fits large
  none-large visits (inr (inl large)) = proved.inductive.initial.fits (initial-large large)
  none-large visits (inr (inr (inl large))) = proved.inductive.step.fits (step-large large)
  none-large visits (inr (inr (inr large))) = proved.inductive.bad.fits (bad-large large)

  -- what the text says of itself passes no limit
  within-limits : IsSized design options.depth (plain_owed unit d) → 1 ≤ options.depth → options.visits ≤ 16
      → (behind : List (List ℤ) → Type 0) → ((clauses : List (List ℤ)) → behind clauses → clauses ≡ certificate.clauses)
      → (limit : Limit) → IsLimitBehind design unit d (inductive_header certificate) behind limit → ⊥
  within-limits sized some visits behind one Sere cause = sized.sequences cause
  within-limits sized some visits behind one OfAutomaton cause =
      let few = sized.obligations in let many = cause.1 in omega (arith, few, many)
  within-limits sized some visits behind one Unroll cause =
      let bulk = bulk_of design (plain_owed unit d) in
      let few : suc options.depth * suc options.depth * bulk ≤ MOST_WORK = sized.unrolled in
      let many : MOST_WORK < suc 1 * suc 1 * bulk = cause.2 in
      omega (arith, few, many, less-work 1 options.depth bulk some)
  within-limits sized some visits behind one OfFormula cause =
      none-large visits
      (subst (AreClausesTooLarge design (violation_of unit d) certificate.visits) (one cause.1.0 cause.1.1) cause.1.2)

-- what is found of a task
pub passed-reach : (task : Task) → IsProvable task → IsAskedOf task.unit.now task.directive.now → task.directive.now.number ≤ 4294967295
    → (finding : Finding) → IsFinding task.netlist.now task.unit.now task.directive.now task.options finding
    → (certificate : InductiveCert) → finding ≡ ProvedReach certificate
    → IsPassedText task.netlist.now task.unit.now task.directive.now.number (inductive_text certificate)
passed-reach task provable numbered few finding is certificate same =
    let design = task.netlist.now in
    let unit = task.unit.now in
    let d = task.directive.now in
    let asks = asked_of unit d.number in
    let shows = queries_of design unit d.number in
    let text = inductive_text certificate in
    let says = inductive_header certificate in
    let proved : IsProvedReach design unit d task.options certificate = subst (IsFinding design unit d task.options) same is in
    let is_evidence = evidence design unit d task.options certificate proved numbered few provable.visits in
    record {
      passed = inductive_passes asks shows certificate is_evidence;
      checked = no-limit design unit d task.options numbered.is text says (inductive_begins asks shows certificate is_evidence)
          (within-limits design unit d task.options certificate proved provable.sized provable.depth provable.visits (ClausesIn design unit d.number text says)
          (λ clauses has. one_clauses asks shows text says says clauses certificate.clauses has (has-clauses asks shows certificate is_evidence)));
    }
