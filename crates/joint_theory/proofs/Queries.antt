-- Both queries together.
use Rattle.std.proofs.Common.{ℕ, suc, ◌*◌, ◌≤◌, ◌↔◌, Bool as Truth, true, false}
use Rattle.std.specs.Prelude.{IsTrue}
use Rattle.alternating_theory.specs.Obligations.{Automaton}
use Rattle.alternating_theory.specs.Acceptance.{Accepts}
use Rattle.clauses.specs.Literals.{clause_words, clauses_within}
use Rattle.clauses.specs.Models.{Assignment, IsModel}
use Rattle.netlist.specs.Design.{Design}
use Rattle.netlist.specs.Runs.{word, IsRun}
use Rattle.netlist.specs.Sound as netlists
use Rattle.netlist.specs.declared.run.Run.{Run}
use Rattle.run_terms.specs.Automata as automata
use Rattle.run_terms.specs.Automata.{TestsSignals}
use Rattle.run_terms.specs.Formulas.{values_of, HasModel}
use Rattle.run_terms.specs.Sizes.{formula_bulk}
use Rattle.joint_theory.specs.Paths.{IsClosedAt, IsOpen, SomeOpen}
use Rattle.joint_theory.specs.Queries.{path_of, query, query_variables}
use Rattle.joint_theory.specs.declared.path.JointPath.{JointPath}
use Rattle.joint_theory.proofs.BaseModels.{base-path, path-base}
use Rattle.joint_theory.proofs.InductionModels.{induction-path, path-induction}
use Rattle.joint_theory.proofs.QueryWithin.{base-within, induction-within}
use Rattle.joint_theory.proofs.Sizes.{base-variables, base-words, induction-variables, induction-words}
use Rattle.joint_theory.proofs.Soundness.{none-accepted}

module _ (design : Design) (automaton : Automaton) (visits window : ℕ) (sound : netlists.IsSound design) (right : automata.IsSound automaton) (tests : TestsSignals design automaton) where
  pub model-path : (initial : Truth) (values : Assignment) → IsModel values (query design automaton visits window initial)
      → IsOpen design automaton visits window initial (path_of design automaton visits window initial values)
  model-path true values model = base-path design automaton visits sound right tests window values model
  model-path false values model = induction-path design automaton visits sound right tests window values model

  pub path-model : (initial : Truth) (path : JointPath) → IsOpen design automaton visits window initial path
      → HasModel (query_variables design automaton visits window initial) (query design automaton visits window initial)
  path-model true path open_path = path-base design automaton visits sound right tests window path open_path
  path-model false path open_path = path-induction design automaton visits sound right tests window path open_path

  pub query-models : (initial : Truth)
      → HasModel (query_variables design automaton visits window initial) (query design automaton visits window initial) ↔ SomeOpen design automaton visits window initial
  query-models initial = (
    λ some none. some (λ values _ model. none (path_of design automaton visits window initial (values_of values)) (model-path initial (values_of values) model)),
    λ some none. some (λ path open_path. path-model initial path open_path none),
  )

  pub refuted : (HasModel (query_variables design automaton visits window true) (query design automaton visits window true) → ⊥)
      → (HasModel (query_variables design automaton visits window false) (query design automaton visits window false) → ⊥)
      → (run : Run) → IsRun design run → Accepts automaton (word design run) → ⊥
  refuted base induction = none-accepted design automaton visits window closed
    where
      closed : IsClosedAt design automaton visits window
      closed true path open_path = base (path-model true path open_path)
      closed false path open_path = induction (path-model false path open_path)

  pub query-within : (initial : Truth)
      → IsTrue (clauses_within (query_variables design automaton visits window initial) (query design automaton visits window initial))
  query-within true = base-within design automaton visits sound right tests window
  query-within false = induction-within design automaton visits sound right tests window

  pub query-words : visits ≤ 16 → (initial : Truth)
      → clause_words (query design automaton visits window initial) ≤ 1000 * suc window * suc window * formula_bulk design automaton
  query-words few true = base-words design automaton visits sound right tests few window
  query-words few false = induction-words design automaton visits sound right tests few window

  pub query-few : visits ≤ 16 → (initial : Truth)
      → query_variables design automaton visits window initial ≤ 1000 * suc window * suc window * formula_bulk design automaton
  query-few few true = base-variables design automaton visits sound right tests few window
  query-few few false = induction-variables design automaton visits sound right tests few window
