-- What a model and a refutation of a query say of the bits of joint states.
use Rattle.std.proofs.Common.{◌≡◌, refl, sym, ap, ◌∙◌, subst, ℕ, ℤ, Bool as Truth, true, false, not, ◌&&◌, List, [], ◌∷◌}
use Rattle.std.specs.Prelude.{IsTrue}
use Rattle.std.proofs.lemmas.Bool.{false_from_ne_true}
use Rattle.clauses.proofs.Soundness.{no_model}
use Rattle.clauses.specs.Literals.{clause_within, clauses_within}
use Rattle.clauses.specs.Logs.{LogEntry}
use Rattle.clauses.specs.Models.{meets, IsModel}
use Rattle.joint.specs.Joined.{Joined}
use Rattle.joint.specs.Slices.{bits_from}
use Rattle.joint_theory.proofs.ReachModels.{initial-stands, relative-stands}
use Rattle.joint_theory.proofs.Widths.{bits-size}
use Rattle.joint_theory.specs.Bits.{joint_width, state_bits, state_in}
use Rattle.joint_theory.specs.Reaching.{EntersBy}
use Rattle.joint_theory.specs.declared.path.JointState.{JointState}
use Rattle.netlist.specs.Sound as netlists
use Rattle.reach_frames.proofs.Negations.{meets_negated}
use Rattle.reach_frames.specs.Bits as lists
use Rattle.reach_frames.specs.Cubes.{negated}
use Rattle.reach_frames.specs.Entries.{HasNoEntry}
use Rattle.reach_frames.specs.Systems.{IsEntry}
use Rattle.reach_frames.specs.declared.entry.Entry.{Entry}
use Rattle.reach_frames.specs.declared.stop.ReachQuery.{ReachQuery}
use Rattle.reach_frames.specs.declared.stop.ReachQuery.TheVariants.{Initial, Relative}
use Rattle.run_terms.specs.Automata as automata
use Rattle.run_terms.specs.Automata.{TestsSignals}
use Rattle.run_terms.specs.Formulas.{values_of, HasModel}
use Rattle.reach.specs.Answers.{IsRefuted}
use Rattle.reach.specs.Formulas.{clauses_of, variables_of, AreWithin}
use Rattle.reach.specs.Systems.{system_of, BeginsAs}
use Rattle.reach.proofs.ModelBits.{bits-same, first-same}
use Rattle.reach.proofs.States.{initial-of}

one-clause : (met : Truth) → (met && true) ≡ met
one-clause true = refl
one-clause false = refl

not_from_false_of : (inside : Truth) → not inside ≡ false → inside ≡ true
not_from_false_of true e = refl
not_from_false_of false e = sym e

-- a query that is refuted has no model
pub refuted-none : (joined : Joined) (steps : ℕ) (query : ReachQuery) (log : List LogEntry)
    → IsTrue (clauses_within (variables_of joined query) (clauses_of joined query)) → IsRefuted joined steps query log
    → HasModel (variables_of joined query) (clauses_of joined query) → ⊥
refuted-none joined steps query log within is some =
    some (λ values size model. no_model (values_of values) (variables_of joined query) (clauses_of joined query) log within is.refutes model)

module _ (joined : Joined) (sound : netlists.IsSound joined.design) (right : automata.IsSound joined.automaton) (tests : TestsSignals joined.design joined.automaton) where
  abbrev width : ℕ
  width = joint_width joined.design joined.automaton joined.visits

  abbrev bits_in : JointState → List Truth
  bits_in state = state_bits joined.design joined.automaton joined.visits state

  -- pairs that lead into a cube

  module _ (frame : List (List ℤ)) (within : AreWithin joined frame) (initial : Truth) (cube : List ℤ) (also : IsTrue (clause_within width cube)) where
    -- two neighbours by their bits are an entry where the pair is one
    pub is-entry : (before after : List Truth) (state next : JointState) → before ≡ bits_in state → after ≡ bits_in next
        → EntersBy joined.design joined.automaton joined.visits frame initial cube state next
        → IsEntry (system_of joined) frame initial cube (record { before = before; after = after })
    is-entry before after state next e f enters = record {
      follows = record {
        state = state;
        next = next;
        bits_of = record { is = enters.is; same = e };
        next_of = record { is = enters.is_next; same = f };
        neighbours = enters.neighbours;
      };
      meets = subst (λ (b : List Truth). IsTrue (lists.is_met frame b)) (sym e) enters.meets;
      outside = subst (λ (b : List Truth). lists.is_in_cube cube b ≡ false) (sym e) enters.outside;
      inside = subst (λ (b : List Truth). IsTrue (lists.is_in_cube cube b)) (sym f) enters.inside;
      begins = λ asked. record {
        state = state;
        bits_of = record { is = enters.is; same = e };
        initial = enters.begins asked;
      };
    }

    pub read-entry : (values : List Truth) → IsModel (values_of values) (clauses_of joined (Relative frame initial cube))
        → IsEntry (system_of joined) frame initial cube (record { before = bits_from values 0 width; after = bits_from values width width })
    read-entry values model =
        let state = state_in joined.design joined.automaton joined.visits 0 (values_of values) in
        let next = state_in joined.design joined.automaton joined.visits width (values_of values) in
        let read = (relative-stands joined.design joined.automaton joined.visits sound right tests frame within initial cube also).reads (values_of values) model in
        is-entry (bits_from values 0 width) (bits_from values width width) state next
        (first-same values (bits_in state) width (bits-size joined.design joined.automaton joined.visits state read.0.is (bits_in state) refl) read.1)
        (bits-same values (bits_in next) width width (bits-size joined.design joined.automaton joined.visits next read.0.is_next (bits_in next) refl) read.2)
        read.0

    -- and what leads into the cube is such a pair
    pub enters-by : (entry : Entry) → (is : IsEntry (system_of joined) frame initial cube entry)
        → EntersBy joined.design joined.automaton joined.visits frame initial cube is.follows.state is.follows.next
    enters-by entry is =
        let e = is.follows.bits_of.same in
        let f = is.follows.next_of.same in
        record {
          is = is.follows.bits_of.is;
          is_next = is.follows.next_of.is;
          neighbours = is.follows.neighbours;
          meets = subst (λ (b : List Truth). IsTrue (lists.is_met frame b)) e is.meets;
          outside = subst (λ (b : List Truth). lists.is_in_cube cube b ≡ false) e is.outside;
          inside = subst (λ (b : List Truth). IsTrue (lists.is_in_cube cube b)) f is.inside;
          begins = λ asked. initial-of joined entry.before is.follows.state (is.begins asked) is.follows.bits_of.is e;
        }

    -- where the query is refuted, nothing leads into the cube
    pub no-entry : (steps : ℕ) (log : List LogEntry) → IsRefuted joined steps (Relative frame initial cube) log
        → HasNoEntry (system_of joined) frame initial cube
    no-entry steps log refuted entry is =
        let stands = relative-stands joined.design joined.automaton joined.visits sound right tests frame within initial cube also in
        refuted-none joined steps (Relative frame initial cube) log stands.within refuted
        (stands.models.1 (λ none. none is.follows.state is.follows.next (enters-by entry is)))

  -- initial states in a cube

  module _ (cube : List ℤ) (also : IsTrue (clause_within width cube)) (within : AreWithin joined (negated cube ∷ [])) where
    -- what misses the clause of a cube is in it
    in-cube : (bits : List Truth) → lists.is_met (negated cube ∷ []) bits ≡ not (lists.is_in_cube cube bits)
    in-cube bits = one-clause (meets (values_of bits) (negated cube)) ∙ meets_negated (values_of bits) width cube also

    pub read-begun : (values : List Truth) → IsModel (values_of values) (clauses_of joined (Initial (negated cube ∷ [])))
        → BeginsAs joined (bits_from values 0 width) × IsTrue (lists.is_in_cube cube (bits_from values 0 width))
    read-begun values model =
        let state = state_in joined.design joined.automaton joined.visits 0 (values_of values) in
        let read = (initial-stands joined.design joined.automaton joined.visits sound right tests (negated cube ∷ []) within).reads (values_of values) model in
        let e = first-same values (bits_in state) width (bits-size joined.design joined.automaton joined.visits state read.0.is (bits_in state) refl) read.1 in (
          record { state = state; bits_of = record { is = read.0.is; same = e }; initial = read.0.initial },
          subst (λ (b : List Truth). IsTrue (lists.is_in_cube cube b)) (sym e)
              (not_from_false_of (lists.is_in_cube cube (bits_in state)) (sym (in-cube (bits_in state)) ∙ read.0.misses)),
        )

    pub none-begun : (steps : ℕ) (log : List LogEntry) → IsRefuted joined steps (Initial (negated cube ∷ [])) log
        → (bits : List Truth) → BeginsAs joined bits → lists.is_in_cube cube bits ≡ false
    none-begun steps log refuted bits begun =
        let stands = initial-stands joined.design joined.automaton joined.visits sound right tests (negated cube ∷ []) within in
        false_from_ne_true (lists.is_in_cube cube bits)
        (λ inside. refuted-none joined steps (Initial (negated cube ∷ [])) log stands.within refuted
        (stands.models.1 (λ none. none begun.state (record {
          is = begun.bits_of.is;
          initial = begun.initial;
          misses = in-cube (bits_in begun.state)
              ∙ ap not (ap (λ (b : List Truth). lists.is_in_cube cube b) (sym begun.bits_of.same) ∙ inside);
        }))))
