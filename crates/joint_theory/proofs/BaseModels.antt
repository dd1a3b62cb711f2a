-- The models of the base query stand for the open paths of the initial kind.
use Rattle.std.proofs.Common.{◌≡◌, ◌⊎◌, inl, inr, refl, sym, ap, ◌∙◌, subst, ℕ, zero, suc, ◌+◌, ◌-◌, ◌*◌, ◌≤◌, ◌<◌, min, true, false, [], ◌∷◌, ◌++◌, map, length, get_or, arith}
use Rattle.std.specs.Prelude.{IsTrue}
use Rattle.std.specs.List.{list_all, range_with_len}
use Rattle.std.proofs.lemmas.Bool.{cases_lt, both_ways}
use Rattle.std.proofs.lemmas.Option.{slice_get_within}
use Rattle.alternating_theory.specs.Obligations.{Automaton}
use Rattle.clauses.specs.Models.{Assignment, IsModel, is_true, meets}
use Rattle.gates_theory.specs.Unrolled.{positions_of, units}
use Rattle.gates_theory.proofs.Literals.{shifted}
use Rattle.gates_theory.proofs.Parts.{units-met}
use Rattle.netlist.specs.Design.{Design}
use Rattle.netlist.specs.Sound as netlists
use Rattle.run_terms.specs.Automata as automata
use Rattle.run_terms.specs.Automata.{TestsSignals}
use Rattle.run_terms.specs.Formulas.{whole, HasModel}
use Rattle.run_terms.proofs.Wholes.{whole-says}
use Rattle.joint_theory.specs.Paths.{IsOpenInitial}
use Rattle.joint_theory.specs.Queries.{bad_at, base, base_variables, first_bad, joint_circuit, joint_size, path_of, start_literals}
use Rattle.joint_theory.specs.Relation.{joint}
use Rattle.joint_theory.specs.States.{AreNeighbours, IsBad, IsInitial, IsState}
use Rattle.joint_theory.specs.declared.path.JointPath.{JointPath}
use Rattle.joint_theory.specs.declared.path.JointState.{JointState}
use Rattle.joint_theory.proofs.Closed.{IsJointWalk, joint-walk, state-at, walk-open_initial}
use Rattle.joint_theory.proofs.Clauses.{first-length, first-model}
use Rattle.joint_theory.proofs.Parts.{append-from, append-parts, of-some, one-from, one-part, some-of}
use Rattle.joint_theory.proofs.PathReads.{bad-from, bad-says, first-is, read-bits, read-is, read-walk}
use Rattle.joint_theory.proofs.PathWrites.{some-written}
use Rattle.joint_theory.proofs.QueryWithin.{base-within}
use Rattle.joint_theory.proofs.Starts.{start-from, start-says}
use Rattle.joint_theory.proofs.Within.{joint-closed}

-- the first position
first-position : (g : ℕ) (values : Assignment) → shifted 0 values ≡ (λ gate. values (0 * g + gate))
first-position g values = λ i gate. values (e gate i)
  where
    e : (gate : ℕ) → 0 + gate ≡ 0 * g + gate
    e gate = grind arith

module _ (design : Design) (automaton : Automaton) (visits : ℕ) (sound : netlists.IsSound design) (right : automata.IsSound automaton) (tests : TestsSignals design automaton) where
  start-met : (values : Assignment)
      → list_all (meets values) (units 0 (start_literals design automaton visits))
      ≡ list_all (is_true (positions_of (joint_circuit design automaton visits) values 0)) (start_literals design automaton visits)
  start-met values =
      units-met values 0 (start_literals design automaton visits)
      ∙ ap (λ (v : Assignment). list_all (is_true v) (start_literals design automaton visits)) (first-position (joint_size design automaton visits) values)

  -- the path that a model stands for

  base-last : (last : ℕ) (values : Assignment) → IsModel values (base design automaton visits (suc last))
      → IsOpenInitial design automaton visits (suc last) (path_of design automaton visits (suc last) true values)
  base-last last values model =
      let front = whole (joint design automaton visits) last ++ units 0 (start_literals design automaton visits) in
      let bads = map (bad_at design automaton visits) (range_with_len 0 (suc last)) in
      let a = append-parts (meets values) (whole (joint design automaton visits) last ++ units 0 (start_literals design automaton visits))
      (map (bad_at design automaton visits) (range_with_len 0 (suc last)) ∷ []) model in
      let b = append-parts (meets values) (whole (joint design automaton visits) last) (units 0 (start_literals design automaton visits)) a.0 in
      let c = some-of (is_true values) (bad_at design automaton visits) 0 (suc last) (one-part (meets values) (map (bad_at design automaton visits) (range_with_len 0 (suc last))) a.1) in
      let first = first-is design automaton visits values (suc last) 0 c.0 c.1 c.2 c.3 in
      let k = first_bad design automaton visits (suc last) values 0 in
      let at = positions_of (joint_circuit design automaton visits) values in
      let is_whole = whole-says (joint design automaton visits) last values (joint-closed design automaton visits sound right tests) b.0 in
      let few : first_bad design automaton visits (suc last) values 0 < suc last = omega (arith, first.below) in
      walk-open_initial design automaton visits (suc last) (first_bad design automaton visits (suc last) values 0) _ few
      (read-walk design automaton visits sound right tests last (positions_of (joint_circuit design automaton visits) values) is_whole (first_bad design automaton visits (suc last) values 0)
      (omega arith) (λ position less. first.good position (omega arith) less))
      (start-says design automaton visits sound right (positions_of (joint_circuit design automaton visits) values 0) _
      (read-is design automaton visits sound right tests last (positions_of (joint_circuit design automaton visits) values) is_whole 0 (omega arith))
      (read-bits design automaton visits sound right tests last (positions_of (joint_circuit design automaton visits) values) is_whole 0 (omega arith))
      (sym (start-met values) ∙ b.1))
      (bad-says design automaton visits (positions_of (joint_circuit design automaton visits) values (first_bad design automaton visits (suc last) values 0)) _
      (read-bits design automaton visits sound right tests last (positions_of (joint_circuit design automaton visits) values) is_whole (first_bad design automaton visits (suc last) values 0) (omega arith))
      first.bad)

  pub base-path : (window : ℕ) (values : Assignment) → IsModel values (base design automaton visits window)
      → IsOpenInitial design automaton visits window (path_of design automaton visits window true values)
  base-path zero values model = absurd (both_ways false refl model)
  base-path (suc last) values model = base-last last values model

  -- and a model of each path

  module _ (last : ℕ) (path : JointPath) (open_path : IsOpenInitial design automaton visits (suc last) path) where
    abbrev top : ℕ
    top = length path.states - 1

    abbrev along : ℕ → JointState
    along place = get_or path.states place open_path.first.0

    abbrev held : ℕ → JointState
    held position = along (min position top)

    some-states : 0 < length path.states
    some-states = slice_get_within path.states 0 open_path.first.0 open_path.first.1

    top-is : length path.states ≡ suc top
    top-is = omega (arith, some-states)

    few-states : top ≤ last
    few-states = omega (arith, open_path.few, some-states)

    walk-is : IsJointWalk design automaton visits top along
    walk-is = joint-walk design automaton visits path open_path.first.0 top top-is open_path.joint

    held-bad : IsBad visits (along top)
    held-bad = subst (IsBad visits) (state-at design automaton visits path open_path.first.0 top open_path.last.0 open_path.last.1) open_path.last.2

    held-initial : IsInitial design automaton (held 0)
    held-initial =
        let e : 0 ≡ min 0 top = omega arith in
        subst (λ (n : ℕ). IsInitial design automaton (along n)) e
        (subst (IsInitial design automaton) (state-at design automaton visits path open_path.first.0 0 open_path.first.0 open_path.first.1) open_path.first.2)

    held-is : (position : ℕ) → IsState design automaton visits (held position)
    held-is position = walk-is.is (min position top) (omega arith)

    held-goes : (position : ℕ) → position ≤ last → IsBad visits (held position) ⊎ AreNeighbours design automaton visits (held position) (held (suc position))
    held-goes position below = elim (cases_lt position top) [
      | inl less ↦ (
          let e : position ≡ min position top = omega arith in
          let f : suc position ≡ min (suc position) top = omega arith in
          inr (subst (λ (n : ℕ). AreNeighbours design automaton visits (along n) (held (suc position))) e
          (subst (λ (n : ℕ). AreNeighbours design automaton visits (along position) (along n)) f (walk-is.linked position less))))
      | inr more ↦ (let e : top ≡ min position top = omega arith in inl (subst (λ (n : ℕ). IsBad visits (along n)) e held-bad))
    ]

    held-model : (values : Assignment) × IsModel values (base design automaton visits (suc last))
    held-model =
        let found = some-written design automaton visits sound right tests last held held-is held-goes in
        let values = found.0 in
        let e : min top top ≡ top = omega arith in
        let bad : IsTrue (is_true found.0 (bad_at design automaton visits top)) =
        bad-from design automaton visits (positions_of (joint_circuit design automaton visits) found.0 top) (held top) (found.1.bits top few-states)
        (subst (λ (n : ℕ). IsBad visits (along n)) (sym e) held-bad) in (
          found.0,
          append-from (meets found.0) (whole (joint design automaton visits) last ++ units 0 (start_literals design automaton visits))
              (map (bad_at design automaton visits) (range_with_len 0 (suc last)) ∷ [])
              (append-from (meets found.0) (whole (joint design automaton visits) last) (units 0 (start_literals design automaton visits)) found.1.met
              (start-met found.0
              ∙ start-from design automaton visits sound right (positions_of (joint_circuit design automaton visits) found.0 0) (held 0) (held-is 0) (found.1.bits 0 (omega arith)) held-initial))
              (one-from (meets found.0) (map (bad_at design automaton visits) (range_with_len 0 (suc last)))
              (of-some (is_true found.0) (bad_at design automaton visits) 0 (suc last) top (omega arith) (omega (arith, few-states)) bad)),
        )

  pub path-base : (window : ℕ) (path : JointPath) → IsOpenInitial design automaton visits window path
      → HasModel (base_variables design automaton visits window) (base design automaton visits window)
  path-base zero path open_path none =
      omega (arith, open_path.few, slice_get_within path.states 0 open_path.first.0 open_path.first.1)
  path-base (suc last) path open_path none =
      let found = held-model last path open_path in
      let n = base_variables design automaton visits (suc last) in
      none (map found.0 (range_with_len 1 (base_variables design automaton visits (suc last)))) (first-length (base_variables design automaton visits (suc last)) found.0)
      (first-model (base_variables design automaton visits (suc last)) (base design automaton visits (suc last)) found.0
      (base-within design automaton visits sound right tests (suc last)) found.1)
