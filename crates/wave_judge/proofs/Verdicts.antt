-- Verdicts and faults: what the parts of a judgement come to, and lists of them.
use Rattle.std.proofs.Common.{◌≡◌, inl, inr, sym, subst, ◌<◌, ◌≤◌, List, [], ◌∷◌, ◌++◌, None}
use Rattle.std.specs.Prelude.{◌↔◌}
use Rattle.std.proofs.lemmas.Bool.{cases_lt}
use Rattle.alternating_theory.specs.Laws.{ValuesOf}
use Rattle.alternating_theory.specs.Obligations.{Automaton}
use Rattle.alternating_theory.specs.Atoms.{KeepsAtoms as AutomatonKeeps}
use Rattle.alternating.specs.Limits.{HasLargeSequence}
use Rattle.clock_rewrite.specs.Clock.{HasSameWords, KeepsAtoms as ClockKeeps}
use Rattle.psl_tree.specs.Views as views
use Rattle.psl_tree.specs.declared.counts.TheConstants.{MOST_OBLIGATIONS}
use Rattle.psl_tree.specs.Counts.{obligations_of}
use Rattle.psl_tree.specs.Trees.{Formula, formula_of}
use Rattle.psl_tree.specs.declared.directive.Directive.{Directive}
use Rattle.psl_tree.specs.declared.letter.Letter.{Letter}
use Rattle.wave_judge.specs.Faults.{unclocked, IsJudgeable}
use Rattle.wave_judge.specs.Judged.{IsVerdict, AreVerdicts}
use Rattle.wave_judge.specs.Automaton.{Means}
use Rattle.wave_judge.specs.declared.verdict.Verdict.{Verdict}

along : {A B C : Type 0} → A ↔ B → B ↔ C → A ↔ C
along h k = (λ a. k.0 (h.0 a), λ c. h.1 (k.1 c))

-- the automaton of a formula that the same words satisfy as the directive's
pub means : (a : Automaton) (d : Directive) (new : Formula) → ValuesOf a new → AutomatonKeeps a new
    → HasSameWords new (formula_of d.formula) None → ClockKeeps new (formula_of d.formula) None → Means a d
means a d new values atoms same kept = record {
  weak = λ letters. along (values.on_weak letters) (same (views.weak letters));
  neutral = λ letters. along (values.on_word letters) (same (views.neutral letters));
  strong = λ letters. along (values.on_strong letters) (same (views.strong letters));
  atoms = λ test h. atoms test (kept test h tt);
}

pub judgeable : (d : Directive) (new : Formula) → new ≡ unclocked d → (HasLargeSequence new → ⊥)
    → ((HasLargeSequence new → ⊥) × (MOST_OBLIGATIONS < obligations_of new) → ⊥) → IsJudgeable d
judgeable d new e small few = subst (λ (f : Formula). (HasLargeSequence f → ⊥) × (obligations_of f ≤ MOST_OBLIGATIONS) → IsJudgeable d) (sym e) (λ p. record { sequences = p.0; obligations = p.1 }) (small, at_most)
  where
    at_most : obligations_of new ≤ MOST_OBLIGATIONS
    at_most = elim (cases_lt MOST_OBLIGATIONS (obligations_of new)) as (λ _. obligations_of new ≤ MOST_OBLIGATIONS) [ inl lt ↦ absurd (few (small, lt)) | inr le ↦ le ]

-- one verdict more
pub verdicts-more : (letters : List Letter) (ds : List Directive) (vs : List Verdict) (d : Directive) (v : Verdict)
    → AreVerdicts letters ds vs → IsVerdict letters d v → AreVerdicts letters (ds ++ d ∷ []) (vs ++ v ∷ [])
verdicts-more letters [] [] d v h k = (k, tt)
verdicts-more letters [] (_ ∷ _) d v h k = absurd h
verdicts-more letters (_ ∷ _) [] d v h k = absurd h
verdicts-more letters (e ∷ ds) (w ∷ vs) d v h k = (h.0, verdicts-more letters ds vs d v h.1 k)
