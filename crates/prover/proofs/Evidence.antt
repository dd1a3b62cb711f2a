-- What a model and a refutation of a search say of the runs of a netlist.
use Rattle.std.proofs.Common.{◌≡◌, refl, ◌∙◌, ap, ◌≤◌, ℕ, suc, sym, subst, ◌↔◌, List, length, None, Bool as Truth, All, arith}
use Rattle.std.proofs.lemmas.List.Elements.{All-weaker}
use Rattle.alternating_theory.specs.Acceptance.{Accepts}
use Rattle.alternating_theory.specs.Obligations.{Automaton}
use Rattle.clauses.proofs.Soundness.{no_model}
use Rattle.clauses.specs.declared.cnf.Cnf.{Cnf}
use Rattle.clauses.specs.Logs.{LogEntry, Refutes}
use Rattle.gates_theory.specs.Sizes.{IsTooLarge}
use Rattle.clock_rewrite.proofs.Meaning.{plain_words}
use Rattle.netlist.specs.Design.{Design}
use Rattle.netlist.specs.Runs.{word}
use Rattle.netlist.specs.Valuations.{IsValuation}
use Rattle.netlist.specs.declared.run.Run.{Run}
use Rattle.psl_tree.specs.Satisfaction.{Sat}
use Rattle.psl_tree.specs.Trace.{trace_of}
use Rattle.psl_tree.specs.Trees.{Formula}
use Rattle.psl_tree.specs.declared.directive.Directive.{Directive}
use Rattle.owed.proofs.Violating.{violating-runs}
use Rattle.owed.specs.Owed.{owed, plain_owed}
use Rattle.owed.specs.Violations.{violation_of}
use Rattle.run_terms.specs.Formulas.{HasModel, values_of}
use Rattle.bounded_theory.specs.Found.{IsFound, SomeFound, run_size}
use Rattle.bounded.specs.Searches.{search_clauses, search_variables}
use Rattle.prover.proofs.Turned.{none-within}
use Rattle.prover.specs.Findings.{IsShortest}
use Rattle.prover.specs.Queries.{IsFormulaOf, clauses_of, variables_of}
use Rattle.prover.specs.Violating.{NoneBelow, Violates}
use Rattle.prover.specs.declared.finding.Query.TheVariants.{Search}

-- a run that is found violates what is owed
pub found-violates : (design : Design) (unit : List Directive) (d : Directive) (automaton : Automaton) (n : ℕ) (run : Run)
    → automaton ≡ violation_of unit d → IsFound design automaton n run → Violates design unit d run
found-violates design unit d automaton n run is found = record {
  is = found.is;
  violates = (violating-runs design unit d run found.is.loops).accepts.0
      (subst (λ (a : Automaton). Accepts a (word design run)) is found.accepted);
}

-- a run that violates it would be found
violates-found : (design : Design) (unit : List Directive) (d : Directive) (automaton : Automaton) (run : Run)
    → automaton ≡ violation_of unit d → Violates design unit d run → IsFound design automaton (run_size run) run
violates-found design unit d automaton run is v = record {
  is = v.is;
  size = refl;
  accepted = subst (λ (a : Automaton). Accepts a (word design run)) (sym is)
      ((violating-runs design unit d run v.is.loops).accepts.1 v.violates);
}

-- where a search is refuted, no run of that size or a smaller one violates what is owed
pub none-more : (design : Design) (unit : List Directive) (d : Directive) (automaton : Automaton) (n : ℕ) (formula : Cnf) (log : List LogEntry)
    → automaton ≡ violation_of unit d
    → (HasModel formula.variables formula.clauses ↔ SomeFound design automaton n)
    → Refutes formula.variables formula.clauses log → NoneBelow design unit d (suc n)
none-more design unit d automaton n formula log is models refutes =
    let none : (HasModel formula.variables formula.clauses) → ⊥ =
    λ h. h (λ values size model. no_model (values_of values) formula.variables formula.clauses log formula.within refutes model) in
    none-within design unit d n (λ run v e. none (models.1 (λ k. k run
    (subst (λ (m : ℕ). IsFound design automaton m run) e (violates-found design unit d automaton run is v)))))

-- what is owed with its clocks rewritten away is not satisfied by the word of such a run
pub plain-violates : (design : Design) (unit : List Directive) (d : Directive) (run : Run) (formula : Formula) → formula ≡ plain_owed unit d
    → Violates design unit d run → Sat (trace_of (word design run)) formula None → ⊥
plain-violates design unit d run formula is v s =
    v.violates ((plain_words (owed unit d) None (word design run)).0
    (subst (λ (f : Formula). Sat (trace_of (word design run)) f None) is s))

-- each of some valuations has a value for each signal
pub are-sized : (design : Design) (valuations : List (List Truth)) → All (IsValuation design) valuations
    → All (λ valuation. length valuation ≡ design.signals) valuations
are-sized design valuations h =
    All-weaker (IsValuation design) (λ valuation. length valuation ≡ design.signals) (λ v is. is.size) valuations h

-- the formula of a search is that of the query
pub query-formula : (design : Design) (unit : List Directive) (d : Directive) (automaton : Automaton) (n : ℕ) (formula : Cnf)
    → automaton ≡ violation_of unit d → formula.variables ≡ search_variables design automaton n
    → formula.clauses ≡ search_clauses design automaton n → IsFormulaOf design unit d (Search n) formula
query-formula design unit d automaton n formula is variables clauses = record {
  variables = variables ∙ ap (λ a. search_variables design a n) is;
  clauses = clauses ∙ ap (λ a. search_clauses design a n) is;
}

pub query-large : (design : Design) (unit : List Directive) (d : Directive) (automaton : Automaton) (n : ℕ) → automaton ≡ violation_of unit d
    → IsTooLarge (search_variables design automaton n) (search_clauses design automaton n)
    → IsTooLarge (variables_of design unit d (Search n)) (clauses_of design unit d (Search n))
query-large design unit d automaton n is large =
    subst (λ (a : Automaton). IsTooLarge (search_variables design a n) (search_clauses design a n)) is large

-- a run of a size below which there is none is a shortest one
pub shortest : (design : Design) (unit : List Directive) (d : Directive) (depth n : ℕ) (run : Run) → n ≤ depth → NoneBelow design unit d n
    → Violates design unit d run → run_size run ≡ n → IsShortest design unit d depth run
shortest design unit d depth n run within none v size = record {
  is = v;
  within = subst (λ (m : ℕ). m ≤ depth) (sym size) within;
  none_below = subst (λ (m : ℕ). NoneBelow design unit d m) (sym size) none;
}

-- what none is shorter than, none is shorter than what is less
pub none-fewer : (design : Design) (unit : List Directive) (d : Directive) (most n : ℕ) → n ≤ most → NoneBelow design unit d most → NoneBelow design unit d n
none-fewer design unit d most n fewer none run v = omega (arith, fewer, none run v)
