-- A joint state, and a pair of neighbours, as the models of a relation of one position.
use Rattle.std.proofs.Common.{◌≡◌, refl, ap, ◌∙◌, subst, ℕ, suc, ◌+◌, ◌-◌, ◌*◌, ◌<◌, Bool as Truth, false, eqb, List, [], ◌∷◌, ◌++◌, length, get_or, arith}
use Rattle.std.specs.Prelude.{IsTrue}
use Rattle.std.specs.List.{list_all}
use Rattle.std.proofs.lemmas.List.{get_or_append_left, get_or-append-add, length-append}
use Rattle.alternating_theory.specs.Obligations.{Automaton}
use Rattle.clauses.specs.Models.{Assignment, IsModel}
use Rattle.gates_theory.specs.Circuits.{AreSame}
use Rattle.gates_theory.specs.Relations.{circuit_of, is_related, variables_of, IsClosed, Relation}
use Rattle.gates_theory.specs.Terms.{term_within, value}
use Rattle.gates_theory.proofs.Agreement.{same-fewer}
use Rattle.gates_theory.proofs.Literals.{shifted}
use Rattle.netlist.specs.Design.{Design}
use Rattle.netlist.specs.Sound as netlists
use Rattle.run_terms.specs.Automata as automata
use Rattle.run_terms.specs.Automata.{TestsSignals}
use Rattle.run_terms.specs.Formulas.{whole}
use Rattle.run_terms.proofs.Wholes.{says-whole, whole-says}
use Rattle.joint_theory.specs.Bits.{joint_width, state_bits, state_in, AreBits}
use Rattle.joint_theory.specs.Reaching.{one_state, two_states}
use Rattle.joint_theory.specs.Relation.{state_terms, step_terms}
use Rattle.joint_theory.specs.Sets.{bits_of}
use Rattle.joint_theory.specs.States.{AreNeighbours, IsState}
use Rattle.joint_theory.specs.declared.path.JointState.{JointState}
use Rattle.joint_theory.proofs.OwnBits.{at-none, bits-are, own-bits}
use Rattle.joint_theory.proofs.Parts.{append-from, append-parts}
use Rattle.joint_theory.proofs.StateBits.{bits-from, length-bits, state-sizes}
use Rattle.joint_theory.proofs.StateSays.{state-read, state-written}
use Rattle.joint_theory.proofs.Steps.{neighbours-from, neighbours-say}
use Rattle.joint_theory.proofs.Within.{state-within, step-within}

-- a relation at one position: its models are the values that are related

at-first : (size : ℕ) (values : Assignment) → (λ gate. values (0 * size + gate)) ≡ values
at-first size values = λ i gate. values (e gate i)
  where
    e : (gate : ℕ) → 0 * size + gate ≡ gate
    e gate = grind arith

pub alone-says : (r : Relation) (values : Assignment) → IsClosed r → IsModel values (whole r 0) → IsTrue (is_related r values)
alone-says r values closed model =
    subst (λ (v : Assignment). IsTrue (is_related r v)) (at-first (length (circuit_of r).gates) values)
    ((whole-says r 0 values closed model).related 0 (omega arith))

pub says-alone : (r : Relation) (values : Assignment) → IsClosed r → IsTrue (is_related r values)
    → (model : Assignment) × IsModel model (whole r 0) × AreSame (variables_of r) model values
says-alone r values closed related =
    let found = says-whole r 0 (λ _. values) closed (record { related = λ _ _. related; moves = λ position bit below low. absurd (omega arith) }) in (
      found.0,
      found.1,
      subst (λ (v : Assignment). AreSame (variables_of r) v values) (at-first (length (circuit_of r).gates) found.0) (found.2 0 (omega arith)),
    )

module _ (design : Design) (automaton : Automaton) (visits : ℕ) (sound : netlists.IsSound design) (right : automata.IsSound automaton) (tests : TestsSignals design automaton) where
  abbrev width : ℕ
  width = joint_width design automaton visits

  pub one-closed : IsClosed (one_state design automaton visits)
  one-closed = state-within design automaton visits sound right tests (variables_of (one_state design automaton visits)) 0 (omega arith)

  pub two-closed : IsClosed (two_states design automaton visits)
  two-closed =
      let n = variables_of (two_states design automaton visits) in
      append-from (term_within (variables_of (two_states design automaton visits)))
      (state_terms design automaton visits 0 ++ state_terms design automaton visits width)
      (step_terms design automaton visits width)
      (append-from (term_within (variables_of (two_states design automaton visits)))
      (state_terms design automaton visits 0) (state_terms design automaton visits width)
      (state-within design automaton visits sound right tests n 0 (omega arith))
      (state-within design automaton visits sound right tests n width (omega arith)))
      (step-within design automaton visits sound right tests n (omega arith))

  -- one state

  pub record IsRead (base : ℕ) (values : Assignment) : Type 0 where
    pub is : IsState design automaton visits (state_in design automaton visits base values)
    pub bits : AreBits design automaton visits base values (state_in design automaton visits base values)

  read-from : (base : ℕ) (values : Assignment) → IsTrue (list_all (value values) (state_terms design automaton visits base)) → IsRead base values
  read-from base values h = let read = state-read design automaton visits sound base values h in record { is = read.0; bits = read.1 }

  pub one-reads : (values : Assignment) → IsModel values (whole (one_state design automaton visits) 0) → IsRead 0 values
  one-reads values model = read-from 0 values (alone-says (one_state design automaton visits) values one-closed model)

  pub one-writes : (x : JointState) → IsState design automaton visits x
      → (model : Assignment) × IsModel model (whole (one_state design automaton visits) 0)
      × AreSame width model (bits_of design automaton visits x)
  one-writes x is =
      let found = says-alone (one_state design automaton visits) (bits_of design automaton visits x) one-closed
      (state-written design automaton visits sound 0 (bits_of design automaton visits x) x is (own-bits design automaton visits x is)) in (
        found.0,
        found.1,
        same-fewer width (variables_of (one_state design automaton visits)) found.0 (bits_of design automaton visits x) (omega arith) found.2,
      )

  -- two states

  pub record AreRead (values : Assignment) : Type 0 where
    pub first : IsRead 0 values
    pub second : IsRead width values
    pub neighbours : AreNeighbours design automaton visits (state_in design automaton visits 0 values)
        (state_in design automaton visits width values)

  pub two-reads : (values : Assignment) → IsModel values (whole (two_states design automaton visits) 0) → AreRead values
  two-reads values model =
      let all = alone-says (two_states design automaton visits) values two-closed model in
      let a = append-parts (value values) (state_terms design automaton visits 0 ++ state_terms design automaton visits width)
      (step_terms design automaton visits width) all in
      let b = append-parts (value values) (state_terms design automaton visits 0) (state_terms design automaton visits width) a.0 in
      let first = read-from 0 values b.0 in
      let second = read-from width values b.1 in
      record {
        first = first;
        second = second;
        neighbours = neighbours-say design automaton visits sound right tests width values
            (state_in design automaton visits 0 values) (state_in design automaton visits width values)
            first.is second.is first.bits second.bits a.1;
      }

  module _ (x y : JointState) (is : IsState design automaton visits x) (also : IsState design automaton visits y) where
    abbrev bits_x : List Truth
    bits_x = state_bits design automaton visits x

    abbrev bits_y : List Truth
    bits_y = state_bits design automaton visits y

    abbrev is_emptied : Truth
    is_emptied = eqb (length x.pending) 0

    -- the values of both states' bits, and whether nothing is pending
    abbrev pub written : Assignment
    written variable = get_or (bits_x ++ bits_y ++ (is_emptied ∷ [])) (variable - 1) false

    first-length : length bits_x ≡ width
    first-length = length-bits design automaton visits x (state-sizes design automaton visits x is)

    second-length : length bits_y ≡ width
    second-length = length-bits design automaton visits y (state-sizes design automaton visits y also)

    both-length : length (bits_x ++ bits_y) ≡ width + width
    both-length = omega (arith, length-append bits_x bits_y, first-length, second-length)

    at-variable : (variable k : ℕ) → variable ≡ suc k → written variable ≡ get_or (bits_x ++ bits_y ++ (is_emptied ∷ [])) k false
    at-variable variable k e = let f : variable - 1 ≡ k = omega arith in ap (λ (n : ℕ). get_or (bits_x ++ bits_y ++ (is_emptied ∷ [])) n false) f

    now-bit : (k : ℕ) → k < width → written (suc (0 + k)) ≡ get_or bits_x k false
    now-bit k below =
        at-variable (suc (0 + k)) k (omega arith)
        ∙ get_or_append_left (bits_x ++ bits_y) (is_emptied ∷ []) false k (omega (arith, both-length))
        ∙ get_or_append_left bits_x bits_y false k (omega (arith, first-length))

    next-bit : (k : ℕ) → k < width → written (suc (width + k)) ≡ get_or bits_y k false
    next-bit k below =
        let e : width + k ≡ length bits_x + k = omega (arith, first-length) in
        at-variable (suc (width + k)) (width + k) refl
        ∙ get_or_append_left (bits_x ++ bits_y) (is_emptied ∷ []) false (width + k) (omega (arith, both-length))
        ∙ ap (λ (n : ℕ). get_or (bits_x ++ bits_y) n false) e
        ∙ get_or-append-add bits_x bits_y k false

    emptied-value : written (suc (width + width)) ≡ is_emptied
    emptied-value =
        let e : width + width ≡ length (bits_x ++ bits_y) + 0 = omega (arith, both-length) in
        at-variable (suc (width + width)) (width + width) refl
        ∙ ap (λ (n : ℕ). get_or (bits_x ++ bits_y ++ (is_emptied ∷ [])) n false) e
        ∙ get_or-append-add (bits_x ++ bits_y) (is_emptied ∷ []) 0 false

    now-are : AreBits design automaton visits 0 written x
    now-are = bits-from design automaton visits 0 written x (state-sizes design automaton visits x is) now-bit

    next-are : AreBits design automaton visits width written y
    next-are = bits-from design automaton visits width written y (state-sizes design automaton visits y also) next-bit

    -- the values are related, where the one state may follow the other
    pub written-related : AreNeighbours design automaton visits x y → IsTrue (is_related (two_states design automaton visits) written)
    written-related neighbours =
        append-from (value written) (state_terms design automaton visits 0 ++ state_terms design automaton visits width)
        (step_terms design automaton visits width)
        (append-from (value written) (state_terms design automaton visits 0) (state_terms design automaton visits width)
        (state-written design automaton visits sound 0 written x is now-are)
        (state-written design automaton visits sound width written y also next-are))
        (neighbours-from design automaton visits sound right tests width written x y is also now-are next-are neighbours emptied-value)

    -- and what begins with them begins with the bits of both states
    pub written-bits : (model : Assignment) → AreSame (variables_of (two_states design automaton visits)) model written
        → AreSame width model (bits_of design automaton visits x)
        × AreSame width (shifted width model) (bits_of design automaton visits y)
    written-bits model same =
        let now : AreSame width written (bits_of design automaton visits x) =
        at-none design automaton visits written (bits_of design automaton visits x) (bits-are design automaton visits 0 written x is now-are) in
        let next : AreSame width (shifted width written) (bits_of design automaton visits y) =
        bits-are design automaton visits width written y also next-are in (
          λ k some few. same k some (omega arith) ∙ now k some few,
          λ k some few. same (width + k) (omega arith) (omega arith) ∙ next k some few,
        )

    pub two-writes : AreNeighbours design automaton visits x y
        → (model : Assignment) × IsModel model (whole (two_states design automaton visits) 0)
        × AreSame width model (bits_of design automaton visits x)
        × AreSame width (shifted width model) (bits_of design automaton visits y)
    two-writes neighbours =
        let found = says-alone (two_states design automaton visits) written two-closed (written-related neighbours) in
        let same = written-bits found.0 found.2 in
        (found.0, found.1, same.0, same.1)
