-- Answers of a solver that is asked, and what its steps leave.
use Rattle.std.proofs.Common.{◌≡◌, ℕ, zero, suc, ◌+◌, ◌-◌, ◌*◌, ◌<◌, ◌≤◌, ℤ, Bool, true, false, List, [], ◌∷◌, ◌++◌, length, map, set, get_or, None, IsSomeAnd, refl, sym, ◌∙◌, arith}
use Rattle.std.specs.Bool.{IsTrue, OnTrue}
use Rattle.std.specs.List.{All, Contains}
use Rattle.std.proofs.lemmas.List.{get_or_default}
use Rattle.std.proofs.lemmas.List.Elements.{All-nil, All-map}
use Rattle.clause_store.specs.Stored.{stored_words}
use Rattle.clauses.specs.Live.{Numbered, clause_of}
use Rattle.clauses.specs.Models.{Assignment, is_true, IsModel}
use Rattle.cdcl_trail.specs.Literals.{signed}
use Rattle.cdcl_propagation.specs.State.{IsSettled}
use Rattle.cdcl_conflict_theory.specs.Lemmas.{IsLearned}
use Rattle.cdcl_incremental.specs.declared.incremental.Incremental.{Incremental}
use Rattle.cdcl.specs.Answers.{values_of}
use Rattle.cdcl_incremental.specs.Questions.{Formula, IsModelWith, IsCore}
use Rattle.cdcl_incremental.specs.Standing.{AreMet, StandsFor, IsGrown, Continues, CanKeep, IsAdded, formula_of}
use Rattle.cdcl.specs.Turns.{IsSolved, AreValues, steps_at}
use Rattle.cdcl.proofs.Logging.{lemma_within}
use Rattle.cdcl_incremental.proofs.Meeting.{lemma_met}
use Rattle.cdcl.proofs.Modelling.{clause_met, is_true_at}
use Rattle.cdcl_incremental.proofs.Standing.{stands_dropped, stands_never}

-- the values along the trail are a model in which the assumed literals are true
pub model_with : (solver : Incremental) (assumed : List ℕ) (values : List Bool) → IsGrown solver → solver.is_refuted ≡ false → solver.is_full ≡ false → IsSettled solver.propagator
    → IsSolved solver.propagator solver.variables → AreValues solver.propagator.path solver.variables values → All (λ literal. literal < 2 * solver.variables) assumed
    → ((place : ℕ) → place < length assumed → Contains solver.propagator.path.literals (get_or assumed place 0)) → IsModelWith (formula_of solver) (map signed assumed) values
model_with solver assumed values grown not_refuted not_full settled solved are within trues =
    let state = solver.propagator in
    record {
      size = are.size;
      model = grown.stands.suffices not_refuted not_full (values_of values) (λ number clause live kept.
          clause_met state solver.variables values clause settled solved are (grown.stands.within number clause live) (settled.ended solved.head number clause live));
      holds = All-map (λ literal. IsTrue (is_true (values_of values) literal)) signed assumed (λ place d inside.
          let same : get_or assumed place d ≡ get_or assumed place 0 = get_or_default assumed place d 0 inside in
          rw same (is_true_at state.path solver.variables values (get_or assumed place 0) settled.path are (within place 0 inside) (trues place inside)));
    }

-- the formula is the same
pub formula_same : (old new : Incremental) → new.formula ≡ old.formula → new.variables ≡ old.variables → formula_of new ≡ formula_of old
formula_same old new formula variables = rw (formula, variables) refl

-- where the formula has no model, no literal is needed for that
pub core_none : (formula : Formula) (assumed : List ℤ) (core : List ℤ) → core ≡ [] → ((values : Assignment) → IsModel values formula.clauses → ⊥) → IsCore formula assumed core
core_none formula assumed core none never = record {
  among = rw none (All-nil (Contains assumed));
  refutes = λ values model trues. never values model;
}

-- the solver, where it is known that the formula has no model
pub continues_refuted : (old new : Incremental) → new.formula ≡ old.formula → new.variables ≡ old.variables → new.propagator ≡ old.propagator → new.analyzer ≡ old.analyzer → new.is_lemma.items ≡ old.is_lemma.items
    → new.is_refuted ≡ true → new.is_full ≡ old.is_full → ((values : Assignment) → AreMet values old.propagator.clauses → ⊥) → IsGrown old → Continues old new
continues_refuted old new formula variables propagator analyzer marks refuted full never grown = record {
  formula = formula;
  variables = variables;
  grown = record {
    few = rw (variables, propagator) grown.few;
    most = rw propagator grown.most;
    room = rw (analyzer, propagator) grown.room;
    stands = rw (variables, formula, propagator, marks, refuted, full)
        (stands_never old.variables old.formula old.propagator.clauses old.is_lemma.items old.is_refuted old.is_full never grown.stands);
  };
}

-- the solver, where the clauses are others
pub continues_with : (old new : Incremental) → new.formula ≡ old.formula → new.variables ≡ old.variables → new.propagator.path.variables ≡ old.propagator.path.variables → new.analyzer ≡ old.analyzer
    → new.is_refuted ≡ old.is_refuted → new.is_full ≡ old.is_full → StandsFor old.variables old.formula new.propagator.clauses new.is_lemma.items old.is_refuted old.is_full → IsGrown old → Continues old new
continues_with old new formula variables room analyzer refuted full stands grown = record {
  formula = formula;
  variables = variables;
  grown = record {
    few = omega (arith, grown.few, variables, room);
    most = omega (arith, grown.most, room);
    room = analyzer ∙ grown.room ∙ sym room;
    stands = rw (variables, formula, refuted, full) stands;
  };
}

-- a lemma is dropped
some_number : (clauses : Numbered ℕ) (number : ℕ) → IsSomeAnd (clause_of clauses number) (λ clause. 2 < length clause) → 0 < number
some_number clauses zero long = absurd long
some_number clauses (suc place) long = omega arith

pub dropped_stands : (solver : Incremental) (number : ℕ) → IsGrown solver → get_or solver.is_lemma.items number false ≡ true → IsSomeAnd (clause_of solver.propagator.clauses number) (λ clause. 2 < length clause)
    → StandsFor solver.variables solver.formula (set solver.propagator.clauses (number - 1) None) solver.is_lemma.items solver.is_refuted solver.is_full
dropped_stands solver number grown lemma long =
    stands_dropped solver.variables solver.formula solver.propagator.clauses number solver.is_lemma.items solver.is_refuted solver.is_full (some_number solver.propagator.clauses number long) lemma grown.stands

-- a lemma that was learned can be added, where there is room
pub can_keep : (solver new : Incremental) (hints : List ℕ) → new.propagator ≡ solver.propagator → new.variables ≡ solver.variables → IsGrown solver → IsSettled solver.propagator → 0 < length solver.propagator.path.limits
    → IsLearned solver.propagator.clauses (steps_at solver.propagator.path) new.lemma.literals.items hints
    → stored_words solver.propagator.clauses + length new.lemma.literals.items ≤ 1000000000 → length solver.propagator.clauses < 2147483647 → CanKeep new
can_keep solver new hints same variables grown settled levels learned words numbers =
    let state = solver.propagator in
    let literals = new.lemma.literals.items in
    record {
      attach = rw same record {
        settled = settled;
        asserting = learned.asserting;
        levels = levels;
        within = lemma_within state.path.variables state.clauses (steps_at state.path) literals hints settled.within learned;
        words = words;
        numbers = numbers;
      };
      within = rw variables (lemma_within solver.variables state.clauses (steps_at state.path) literals hints grown.stands.within learned);
      met = rw same (λ values met. lemma_met values state.clauses literals hints met learned.passes);
    }

pub on_true_both : {P Q R : Type 0} (test : Bool) → (P → Q → R) → OnTrue test P → OnTrue test Q → OnTrue test R
on_true_both true give first second = give first second
on_true_both false give first second = tt

-- a clause more
pub added_with : (old new : Incremental) (clause : List ℤ) → new.formula ≡ old.formula ++ clause ∷ [] → new.variables ≡ old.variables → new.propagator.path.variables ≡ old.propagator.path.variables → new.analyzer ≡ old.analyzer
    → StandsFor old.variables (old.formula ++ clause ∷ []) new.propagator.clauses new.is_lemma.items new.is_refuted new.is_full → IsGrown old → IsAdded old clause new
added_with old new clause formula variables room analyzer stands grown = record {
  formula = formula;
  variables = variables;
  grown = record {
    few = omega (arith, grown.few, variables, room);
    most = omega (arith, grown.most, room);
    room = analyzer ∙ grown.room ∙ sym room;
    stands = rw (variables, formula) stands;
  };
}
