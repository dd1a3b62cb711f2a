-- Clauses are inductive just where the queries for an initial state, a step and a bad state have no model.
use Rattle.std.proofs.Common.{◌≡◌, refl, ℕ, ◌↔◌, ℤ, Bool as Truth, true, false, List}
use Rattle.std.specs.Prelude.{IsTrue}
use Rattle.std.proofs.lemmas.Bool.{both_ways, false_from_ne_true}
use Rattle.alternating_theory.specs.Obligations.{Automaton}
use Rattle.clauses.specs.Literals.{clauses_within}
use Rattle.netlist.specs.Design.{Design}
use Rattle.netlist.specs.Sound as netlists
use Rattle.run_terms.specs.Automata as automata
use Rattle.run_terms.specs.Automata.{TestsSignals}
use Rattle.joint_theory.specs.Bits.{joint_width}
use Rattle.joint_theory.specs.Reaching.{AreRefuted}
use Rattle.joint_theory.specs.Sets.{is_met, IsInductive}
use Rattle.joint_theory.proofs.ReachModels.{bad-stands, initial-stands, step-stands}

met-unless : (met : Truth) → (met ≡ false → ⊥) → IsTrue met
met-unless true h = refl
met-unless false h = absurd (h refl)

module _ (design : Design) (automaton : Automaton) (visits : ℕ) (sound : netlists.IsSound design) (right : automata.IsSound automaton) (tests : TestsSignals design automaton)
    (clauses : List (List ℤ)) (within : IsTrue (clauses_within (joint_width design automaton visits) clauses)) where
  refuted-inductive : AreRefuted design automaton visits clauses → IsInductive design automaton visits clauses
  refuted-inductive none = record {
    initial = λ state is first. met-unless (is_met design automaton visits clauses state) (λ misses.
        none.initial ((initial-stands design automaton visits sound right tests clauses within).models.1
        (λ no. no state (record { is = is; initial = first; misses = misses }))));
    step = λ state next is also neighbours meets. met-unless (is_met design automaton visits clauses next) (λ misses.
        none.step ((step-stands design automaton visits sound right tests clauses within).models.1
        (λ no. no state next (record { is = is; is_next = also; neighbours = neighbours; meets = meets; misses = misses }))));
    bad = λ state is bad. false_from_ne_true (is_met design automaton visits clauses state) (λ meets.
        none.bad ((bad-stands design automaton visits sound right tests clauses within).models.1
        (λ no. no state (record { is = is; bad = bad; meets = meets }))));
  }

  inductive-refuted : IsInductive design automaton visits clauses → AreRefuted design automaton visits clauses
  inductive-refuted inductive = record {
    initial = λ model. (initial-stands design automaton visits sound right tests clauses within).models.0 model (λ state named.
        both_ways (is_met design automaton visits clauses state) named.misses (inductive.initial state named.is named.initial));
    step = λ model. (step-stands design automaton visits sound right tests clauses within).models.0 model (λ state next named.
        both_ways (is_met design automaton visits clauses next) named.misses
        (inductive.step state next named.is named.is_next named.neighbours named.meets));
    bad = λ model. (bad-stands design automaton visits sound right tests clauses within).models.0 model (λ state named.
        both_ways (is_met design automaton visits clauses state) (inductive.bad state named.is named.bad) named.meets);
  }

  pub inductive-models : IsInductive design automaton visits clauses ↔ AreRefuted design automaton visits clauses
  inductive-models = (inductive-refuted, refuted-inductive)
