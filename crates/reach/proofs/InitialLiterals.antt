-- Literals that are true of each initial state.
use Rattle.std.proofs.Common.{◌≡◌, refl, sym, ap, ◌∙◌, subst, ℕ, ℤ, Bool as Truth, true, false, ◌&&◌, ◌||◌, List, [], ◌∷◌}
use Rattle.std.specs.Prelude.{IsTrue}
use Rattle.std.specs.List.{list_all}
use Rattle.std.proofs.lemmas.Bool.{true_from_ne_false}
use Rattle.clauses.specs.Literals.{clause_within, clauses_within, is_within}
use Rattle.clauses.specs.Logs.{LogEntry}
use Rattle.clauses.specs.Models.{Assignment, is_true, meets}
use Rattle.joint.specs.Joined.{Joined}
use Rattle.joint_theory.proofs.OwnBits.{own-bits}
use Rattle.joint_theory.proofs.ReachModels.{initial-stands}
use Rattle.joint_theory.proofs.Starts.{start-from}
use Rattle.joint_theory.specs.Bits.{joint_width}
use Rattle.joint_theory.specs.Queries.{start_literals}
use Rattle.joint_theory.specs.Sets.{bits_of}
use Rattle.netlist.specs.Sound as netlists
use Rattle.reach_frames.specs.Bits.{values_of, is_in_cube, is_met}
use Rattle.reach_frames.specs.declared.stop.ReachQuery.TheVariants.{Initial}
use Rattle.run_terms.specs.Automata as automata
use Rattle.run_terms.specs.Automata.{TestsSignals}
use Rattle.reach.specs.Answers.{IsRefuted}
use Rattle.reach.specs.Formulas.{AreWithin}
use Rattle.reach.specs.Knowing.{each_alone, AreKnown, TellsKnown}
use Rattle.reach.specs.Questions.{IsTold}
use Rattle.reach.specs.Systems.{BeginsAs}
use Rattle.reach.specs.declared.asking.Told.{Told}
use Rattle.reach.specs.declared.asking.Told.TheVariants.{Model, Refuted}
use Rattle.reach.proofs.ModelReads.{refuted-none}

or-false : (value : Truth) → (value || false) ≡ value
or-false true = refl
or-false false = refl

and-true : (value : Truth) → (value && true) ≡ value
and-true true = refl
and-true false = refl

-- the clauses that say each of some literals are met where all are true
alone-met : (values : Assignment) (literals : List ℤ) → list_all (meets values) (each_alone literals) ≡ list_all (is_true values) literals
alone-met values [] = refl
alone-met values (literal ∷ literals) =
    ap (λ (t : Truth). t && list_all (meets values) (each_alone literals)) (or-false (is_true values literal))
    ∙ ap (λ (t : Truth). is_true values literal && t) (alone-met values literals)

-- and speak of the same variables
pub alone-within : (width : ℕ) (literals : List ℤ) → clauses_within width (each_alone literals) ≡ clause_within width literals
alone-within width [] = refl
alone-within width (literal ∷ literals) =
    ap (λ (t : Truth). t && clauses_within width (each_alone literals)) (and-true (is_within width literal))
    ∙ ap (λ (t : Truth). is_within width literal && t) (alone-within width literals)

pub start-known : (joined : Joined) → netlists.IsSound joined.design → automata.IsSound joined.automaton
    → AreKnown joined (start_literals joined.design joined.automaton joined.visits)
start-known joined sound right bits begun =
    ap (λ (b : List Truth). is_in_cube (start_literals joined.design joined.automaton joined.visits) b) begun.bits_of.same
    ∙ start-from joined.design joined.automaton joined.visits sound right
    (bits_of joined.design joined.automaton joined.visits begun.state) begun.state begun.bits_of.is
    (own-bits joined.design joined.automaton joined.visits begun.state begun.bits_of.is) begun.initial

module _ (joined : Joined) (sound : netlists.IsSound joined.design) (right : automata.IsSound joined.automaton)
    (tests : TestsSignals joined.design joined.automaton) where
  -- clauses of which no initial state is found to miss one
  refuted-met : (clauses : List (List ℤ)) → AreWithin joined clauses → (steps : ℕ) (log : List LogEntry)
      → IsRefuted joined steps (Initial clauses) log → (bits : List Truth) → BeginsAs joined bits → is_met clauses bits ≡ true
  refuted-met clauses within steps log refuted bits begun =
      let stands = initial-stands joined.design joined.automaton joined.visits sound right tests clauses within in
      true_from_ne_false (is_met clauses bits)
      (λ misses. refuted-none joined steps (Initial clauses) log stands.within refuted
      (stands.models.1 (λ none. none begun.state (record {
        is = begun.bits_of.is;
        initial = begun.initial;
        misses = ap (λ (b : List Truth). is_met clauses b) (sym begun.bits_of.same) ∙ misses;
      }))))

  pub tells-known : (steps : ℕ) (width : ℕ) → width ≡ joint_width joined.design joined.automaton joined.visits
      → (literals : List ℤ) (clauses : List (List ℤ)) → clauses ≡ each_alone literals → IsTrue (clause_within width literals)
      → (told : Told) → IsTold joined steps (Initial clauses) told → TellsKnown joined literals told
  tells-known steps width many literals clauses alone within (Model values) told = tt
  tells-known steps width many literals clauses alone within (Refuted log count) told = λ bits begun.
      let every : AreWithin joined clauses =
      subst (λ (cs : List (List ℤ)). AreWithin joined cs) (sym alone)
      (subst (λ (n : ℕ). IsTrue (clauses_within n (each_alone literals))) many (alone-within width literals ∙ within)) in
      sym (alone-met (values_of bits) literals) ∙ ap (λ (cs : List (List ℤ)). is_met cs bits) (sym alone) ∙ refuted-met clauses every steps log told bits begun
