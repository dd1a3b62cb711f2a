-- What the formula over a slice tells of entries into a cube.
use Rattle.std.proofs.Common.{◌≡◌, refl, sym, ap, ◌∙◌, subst, ℕ, ◌+◌, ◌≤◌, ℤ, pos, negsuc, Bool as Truth, true, false, cond, ◌||◌, List, [], ◌∷◌, ◌++◌, map, append_assoc, arith}
use Rattle.std.specs.Prelude.{IsTrue}
use Rattle.std.specs.List.{list_all}
use Rattle.std.proofs.lemmas.Bool.{and_from, and_parts}
use Rattle.std.proofs.lemmas.List.Elements.{All-append, All-cons, All-nil}
use Rattle.std.proofs.lemmas.List.Folds.{list_all-append}
use Rattle.cdcl_incremental.specs.Questions.{AreTrue}
use Rattle.gates_theory.proofs.Within.{moved_within}
use Rattle.gates_theory.specs.Unrolled.{moved, units}
use Rattle.clauses.specs.Literals.{clause_within, is_within}
use Rattle.clauses.specs.Models.{Assignment, is_true, meets, IsModel}
use Rattle.joint.specs.Joined.{Joined}
use Rattle.joint.specs.Values.{AreBitsOfNeighbours}
use Rattle.joint.specs.declared.slice.Slice.{Slice}
use Rattle.joint_theory.proofs.OwnBits.{own-bits}
use Rattle.joint_theory.proofs.Sliced.{sliced-closed, sliced-misses_none}
use Rattle.joint_theory.proofs.Starts.{start-says}
use Rattle.joint_theory.proofs.Within.{start-within}
use Rattle.joint_theory.specs.Bits.{joint_width}
use Rattle.joint_theory.specs.Queries.{start_literals}
use Rattle.joint_theory.specs.Reaching.{start_units}
use Rattle.joint_theory.specs.Sets.{bits_of}
use Rattle.joint_theory.specs.Sliced as theory
use Rattle.joint_theory.specs.Sliced.{kept_by}
use Rattle.netlist.specs.Sound as netlists
use Rattle.reach_frames.specs.Bits.{is_in_cube}
use Rattle.reach_frames.specs.Cubes.{negated}
use Rattle.reach_frames.specs.Entries.{HasNoEntry}
use Rattle.reach_frames.specs.Systems.{IsEntry}
use Rattle.reach_frames.specs.declared.entry.Entry.{Entry}
use Rattle.run_terms.proofs.FormulaSizes.{gates-length}
use Rattle.run_terms.specs.Automata as automata
use Rattle.run_terms.specs.Automata.{TestsSignals}
use Rattle.reach.specs.Entering.{asked_of, DoesLead}
use Rattle.reach.specs.Formulas.{AreWithin}
use Rattle.reach.specs.Sliced.{sliced_pair, sliced_relative, sliced_variables}
use Rattle.reach.specs.Systems.{system_of}
use Rattle.reach.proofs.ModelReads.{enters-by}

-- what unit clauses say
units-hold : (values : Assignment) (base : ℕ) (literals : List ℤ) → IsModel values (units base literals)
    → AreTrue values (map (moved base) literals)
units-hold values base [] model = All-nil (λ (l : ℤ). IsTrue (is_true values l))
units-hold values base (literal ∷ literals) model =
    let parts = and_parts (meets values (moved base literal ∷ [])) (list_all (meets values) (units base literals)) model in
    All-cons (λ (l : ℤ). IsTrue (is_true values l)) (moved base literal) (map (moved base) literals)
    (sym (or-false (is_true values (moved base literal))) ∙ parts.0) (units-hold values base literals parts.1)
  where
    or-false : (value : Truth) → (value || false) ≡ value
    or-false true = refl
    or-false false = refl

moved-none : (literals : List ℤ) → map (moved 0) literals ≡ literals
moved-none [] = refl
moved-none (pos n ∷ literals) = let e : 0 + n ≡ n = omega arith in rw (e, moved-none literals)
moved-none (negsuc n ∷ literals) = let e : 0 + n ≡ n = omega arith in rw (e, moved-none literals)

moved-within : (size many : ℕ) → size + size ≤ many → (literals : List ℤ) → IsTrue (clause_within size literals)
    → IsTrue (clause_within many (map (moved size) literals))
moved-within size many fits [] within = refl
moved-within size many fits (literal ∷ literals) within =
    let parts = and_parts (is_within size literal) (clause_within size literals) within in
    and_from (is_within many (moved size literal)) (clause_within many (map (moved size) literals))
    (moved_within size size many literal parts.0 fits) (moved-within size many fits literals parts.1)

module _ (joined : Joined) where
  abbrev width : ℕ
  width = joint_width joined.design joined.automaton joined.visits

  -- the formula as that of the pair, what is asked of its first state, and then what is asked of both
  pub relative-is : (slice : Slice) (many : ℕ) → many ≡ joint_width joined.design joined.automaton joined.visits
      → (frame : List (List ℤ)) (initial : Truth) (cube : List ℤ)
      → sliced_relative joined slice frame initial cube
      ≡ (sliced_pair joined slice ++ (frame ++ (negated cube ∷ [])))
      ++ (units many cube ++ start_units joined.design joined.automaton joined.visits initial)
  relative-is slice many is frame initial cube =
      let pair = sliced_pair joined slice in
      let outside = negated cube ∷ [] in
      let asked = start_units joined.design joined.automaton joined.visits initial in
      let inside = units width cube in
      rw is (append_assoc (pair ++ frame ++ outside) inside asked ∙ ap (λ (front : List (List ℤ)). front ++ (inside ++ asked)) (append_assoc pair frame outside))

  module _ (sound : netlists.IsSound joined.design) (right : automata.IsSound joined.automaton) (tests : TestsSignals joined.design joined.automaton) where
    -- the bits of both states are among its variables
    pub sliced-wide : (slice : Slice)
        → joint_width joined.design joined.automaton joined.visits + joint_width joined.design joined.automaton joined.visits
        ≤ sliced_variables joined slice
    sliced-wide slice =
        let relation = theory.sliced_pair joined.design joined.automaton joined.visits (kept_by slice.now) (kept_by slice.before) in
        let closed = sliced-closed joined.design joined.automaton joined.visits (kept_by slice.now) (kept_by slice.before) sound right tests in
        omega (arith, gates-length relation closed)

    -- what is asked is within so many variables
    pub asked-within : (many : ℕ) → width + width ≤ many → (initial : Truth) (cube : List ℤ) → IsTrue (clause_within width cube)
        → IsTrue (clause_within many (asked_of joined initial cube))
    asked-within many fits initial cube within =
        let start : List ℤ = cond initial (start_literals joined.design joined.automaton joined.visits) [] in
        list_all-append (is_within many) (map (moved width) cube) start
        ∙ and_from (clause_within many (map (moved width) cube)) (clause_within many start)
        (moved-within width many fits cube within) (begins initial)
      where
        begins : (initial : Truth)
            → IsTrue (clause_within many (cond initial (start_literals joined.design joined.automaton joined.visits) []))
        begins true = start-within joined.design joined.automaton joined.visits sound right tests many (omega (arith, fits))
        begins false = refl

    -- where nothing makes all true that is asked, nothing leads into the cube

    module _ (frame : List (List ℤ)) (within : AreWithin joined frame) (initial : Truth) (cube : List ℤ) (also : IsTrue (clause_within width cube)) where
      start-holds : (values : Assignment) (asked : Truth)
          → IsModel values (start_units joined.design joined.automaton joined.visits asked)
          → AreTrue values (cond asked (start_literals joined.design joined.automaton joined.visits) [])
      start-holds values true model =
          subst (AreTrue values) (moved-none (start_literals joined.design joined.automaton joined.visits))
          (units-hold values 0 (start_literals joined.design joined.automaton joined.visits) model)
      start-holds values false model = All-nil (λ (l : ℤ). IsTrue (is_true values l))

      split : (slice : Slice) (values : Assignment) → IsModel values (sliced_relative joined slice frame initial cube)
          → IsModel values (sliced_pair joined slice ++ (frame ++ (negated cube ∷ [])))
          × IsModel values (units width cube ++ start_units joined.design joined.automaton joined.visits initial)
      split slice values model =
          let front = sliced_pair joined slice ++ (frame ++ (negated cube ∷ [])) in
          let back = units width cube ++ start_units joined.design joined.automaton joined.visits initial in
          and_parts (list_all (meets values) front) (list_all (meets values) back)
          (sym (list_all-append (meets values) front back)
          ∙ subst (IsModel values) (relative-is slice width refl frame initial cube) model)

      fronts-met : (slice : Slice) (values : Assignment) → IsModel values (sliced_relative joined slice frame initial cube)
          → IsModel values (sliced_pair joined slice) × IsModel values (frame ++ negated cube ∷ [])
      fronts-met slice values model =
          and_parts (list_all (meets values) (sliced_pair joined slice)) (list_all (meets values) (frame ++ negated cube ∷ []))
          (sym (list_all-append (meets values) (sliced_pair joined slice) (frame ++ negated cube ∷ []))
          ∙ (split slice values model).0)

      asked-met : (slice : Slice) (values : Assignment) → IsModel values (sliced_relative joined slice frame initial cube)
          → AreTrue values (asked_of joined initial cube)
      asked-met slice values model =
          let start = start_units joined.design joined.automaton joined.visits initial in
          let parts = and_parts (list_all (meets values) (units width cube)) (list_all (meets values) start)
          (sym (list_all-append (meets values) (units width cube) start) ∙ (split slice values model).1) in
          All-append (λ (l : ℤ). IsTrue (is_true values l)) (map (moved width) cube)
          (cond initial (start_literals joined.design joined.automaton joined.visits) [])
          (units-hold values width cube parts.0) (start-holds values initial parts.1)

      pub sliced-none : (slice : Slice)
          → ((values : Assignment) → IsModel values (sliced_pair joined slice)
          → IsModel values (frame ++ negated cube ∷ []) → AreTrue values (asked_of joined initial cube) → ⊥)
          → HasNoEntry (system_of joined) frame initial cube
      sliced-none slice none entry leads =
          let misses = sliced-misses_none joined.design joined.automaton joined.visits (kept_by slice.now) (kept_by slice.before) sound right tests frame initial cube within also in
          misses.none (λ some. some (λ values size model.
          let fronts = fronts-met slice _ model in none _ fronts.0 fronts.1 (asked-met slice _ model)))
          leads.follows.state leads.follows.next (enters-by joined sound right tests frame within initial cube also entry leads)

    -- two neighbours that lead into a cube as literals tell it are an entry
    pub does-enter : (frame : List (List ℤ)) (initial : Truth) (cube : List ℤ) (entry : Entry)
        → DoesLead joined frame initial cube entry
        → AreBitsOfNeighbours joined.design joined.automaton joined.visits entry.before entry.after
        → IsEntry (system_of joined) frame initial cube entry
    does-enter frame initial cube entry leads are = record {
      follows = record {
        state = are.state;
        next = are.later;
        bits_of = record { is = are.is; same = are.bits_are };
        next_of = record { is = are.is_later; same = are.next_are };
        neighbours = are.neighbours;
      };
      meets = leads.meets;
      outside = leads.outside;
      inside = leads.inside;
      begins = λ asked. record {
        state = are.state;
        bits_of = record { is = are.is; same = are.bits_are };
        initial = start-says joined.design joined.automaton joined.visits sound right
            (bits_of joined.design joined.automaton joined.visits are.state) are.state are.is
            (own-bits joined.design joined.automaton joined.visits are.state are.is)
            (subst (λ (b : List Truth). IsTrue (is_in_cube (start_literals joined.design joined.automaton joined.visits) b))
            are.bits_are (leads.begins asked));
      };
    }
