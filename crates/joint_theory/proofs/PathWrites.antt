-- A model of the relation from joint states of which each follows the one before it, as far as these are not bad.
use Rattle.std.proofs.Common.{◌≡◌, ◌⊎◌, inl, inr, refl, sym, ap, ◌∙◌, ℕ, suc, ◌+◌, ◌-◌, ◌≤◌, ◌<◌, ℤ, neg_ℤ, Bool as Truth, true, false, eqb, List, [], ◌∷◌, ◌++◌, length, get_or, arith}
use Rattle.std.specs.Prelude.{IsTrue}
use Rattle.std.specs.List.{list_all}
use Rattle.std.proofs.lemmas.Bool.{both_ways, not-true}
use Rattle.std.proofs.lemmas.List.{get_or_append_left, get_or-append-add, length-append}
use Rattle.alternating_theory.specs.Obligations.{Automaton}
use Rattle.clauses.specs.Models.{Assignment, IsModel, is_true}
use Rattle.gates_theory.specs.Terms.{Term, value}
use Rattle.gates_theory.specs.Unrolled.{positions_of}
use Rattle.gates_theory.proofs.Literals.{true-neg}
use Rattle.netlist.specs.Design.{Design}
use Rattle.netlist.specs.Sound as netlists
use Rattle.run_terms.specs.Automata as automata
use Rattle.run_terms.specs.Automata.{TestsSignals}
use Rattle.run_terms.specs.Formulas.{whole}
use Rattle.run_terms.specs.Tables.{guarded}
use Rattle.run_terms.proofs.Logic.{guarded-from}
use Rattle.run_terms.proofs.Wholes.{IsWhole, says-whole}
use Rattle.joint_theory.specs.Bits.{bad_bit, joint_width, state_bits, AreBits}
use Rattle.joint_theory.specs.Queries.{joint_circuit}
use Rattle.joint_theory.specs.Relation.{joint, state_terms, step_terms, unless_bad}
use Rattle.joint_theory.specs.States.{AreNeighbours, IsBad, IsState}
use Rattle.joint_theory.specs.declared.path.JointState.{JointState}
use Rattle.joint_theory.proofs.Parts.{all-weaker, append-from, map-parts}
use Rattle.joint_theory.proofs.PathReads.{bad-from}
use Rattle.joint_theory.proofs.StateBits.{bits-from, length-bits, moved-bits, state-sizes}
use Rattle.joint_theory.proofs.StateSays.{state-written}
use Rattle.joint_theory.proofs.Steps.{neighbours-from}
use Rattle.joint_theory.proofs.Within.{joint-closed}

module _ (design : Design) (automaton : Automaton) (visits : ℕ) (sound : netlists.IsSound design) (right : automata.IsSound automaton) (tests : TestsSignals design automaton)
    (last : ℕ) (x : ℕ → JointState) (is : (position : ℕ) → IsState design automaton visits (x position))
    (goes : (position : ℕ) → position ≤ last → IsBad visits (x position) ⊎ AreNeighbours design automaton visits (x position) (x (suc position))) where
  abbrev width : ℕ
  width = joint_width design automaton visits

  abbrev bits_at : ℕ → List Truth
  bits_at position = state_bits design automaton visits (x position)

  abbrev is_emptied : ℕ → Truth
  is_emptied position = eqb (length (x position).pending) 0

  abbrev both_bits : ℕ → List Truth
  both_bits position = bits_at position ++ bits_at (suc position)

  -- the values at a position
  abbrev written : ℕ → Assignment
  written position variable = get_or (both_bits position ++ is_emptied position ∷ []) (variable - 1) false

  one-length : (position : ℕ) → length (bits_at position) ≡ width
  one-length position = length-bits design automaton visits (x position) (state-sizes design automaton visits (x position) (is position))

  both-length : (position : ℕ) → length (both_bits position) ≡ width + width
  both-length position = omega (arith, length-append (bits_at position) (bits_at (suc position)), one-length position, one-length (suc position))

  at-variable : (position variable k : ℕ) → variable ≡ suc k → written position variable ≡ get_or (both_bits position ++ is_emptied position ∷ []) k false
  at-variable position variable k e =
      let f : variable - 1 ≡ k = omega arith in ap (λ (n : ℕ). get_or (both_bits position ++ is_emptied position ∷ []) n false) f

  now-bit : (position k : ℕ) → k < width → written position (suc (0 + k)) ≡ get_or (bits_at position) k false
  now-bit position k below =
      at-variable position (suc (0 + k)) k (omega arith)
      ∙ get_or_append_left (both_bits position) (is_emptied position ∷ []) false k (omega (arith, both-length position))
      ∙ get_or_append_left (bits_at position) (bits_at (suc position)) false k (omega (arith, one-length position))

  next-bit : (position k : ℕ) → k < width → written position (suc (width + k)) ≡ get_or (bits_at (suc position)) k false
  next-bit position k below =
      let e : width + k ≡ length (bits_at position) + k = omega (arith, one-length position) in
      at-variable position (suc (width + k)) (width + k) refl
      ∙ get_or_append_left (both_bits position) (is_emptied position ∷ []) false (width + k) (omega (arith, both-length position))
      ∙ ap (λ (n : ℕ). get_or (both_bits position) n false) e
      ∙ get_or-append-add (bits_at position) (bits_at (suc position)) k false

  emptied-value : (position : ℕ) → written position (suc (width + width)) ≡ is_emptied position
  emptied-value position =
      let e : width + width ≡ length (both_bits position) + 0 = omega (arith, both-length position) in
      at-variable position (suc (width + width)) (width + width) refl
      ∙ ap (λ (n : ℕ). get_or (both_bits position ++ is_emptied position ∷ []) n false) e
      ∙ get_or-append-add (both_bits position) (is_emptied position ∷ []) 0 false

  now-are : (position : ℕ) → AreBits design automaton visits 0 (written position) (x position)
  now-are position =
      bits-from design automaton visits 0 (written position) (x position) (state-sizes design automaton visits (x position) (is position)) (now-bit position)

  next-are : (position : ℕ) → AreBits design automaton visits width (written position) (x (suc position))
  next-are position =
      bits-from design automaton visits width (written position) (x (suc position)) (state-sizes design automaton visits (x (suc position)) (is (suc position))) (next-bit position)

  abbrev bad : ℤ
  bad = bad_bit design automaton visits

  abbrev steps : List Term
  steps = step_terms design automaton visits (joint_width design automaton visits)

  -- what is asked of the next state counts only where the state is not bad
  unless-value : (position : ℕ) → (is_true (written position) (neg_ℤ bad) ≡ true → IsTrue (list_all (value (written position)) steps))
      → IsTrue (list_all (value (written position)) (unless_bad design automaton visits steps))
  unless-value position h = map-parts (value (written position)) (guarded (neg_ℤ bad)) steps ∙ by (is_true (written position) (neg_ℤ bad)) refl
    where
      by : (b : Truth) → is_true (written position) (neg_ℤ bad) ≡ b → IsTrue (list_all (λ term. value (written position) (guarded (neg_ℤ bad) term)) steps)
      by true on = all-weaker (value (written position)) (λ term. value (written position) (guarded (neg_ℤ bad) term))
          (λ term t. guarded-from (written position) (neg_ℤ bad) term (λ _. t)) steps (h on)
      by false off = every steps
        where
          every : (terms : List Term) → IsTrue (list_all (λ term. value (written position) (guarded (neg_ℤ bad) term)) terms)
          every [] = refl
          every (term ∷ terms) = rw (guarded-from (written position) (neg_ℤ bad) term (λ on. absurd (both_ways (is_true (written position) (neg_ℤ bad)) off on))) (every terms)

  steps-written : (position : ℕ) → IsBad visits (x position) ⊎ AreNeighbours design automaton visits (x position) (x (suc position))
      → is_true (written position) (neg_ℤ bad) ≡ true → IsTrue (list_all (value (written position)) steps)
  steps-written position (inl is_bad) on =
      absurd (both_ways (is_true (written position) bad)
      (not-true (is_true (written position) bad) (sym (true-neg (written position) bad (omega arith)) ∙ on))
      (bad-from design automaton visits (written position) (x position) (now-are position) is_bad))
  steps-written position (inr neighbours) on =
      neighbours-from design automaton visits sound right tests width (written position) (x position) (x (suc position)) (is position) (is (suc position))
      (now-are position) (next-are position) neighbours (emptied-value position)

  whole-written : IsWhole (joint design automaton visits) last written
  whole-written = record {
    related = λ position below.
        append-from (value (written position)) (state_terms design automaton visits 0) (unless_bad design automaton visits steps)
        (state-written design automaton visits sound 0 (written position) (x position) (is position) (now-are position))
        (unless-value position (steps-written position (goes position below)));
    moves = λ position bit below low. ap (λ (n : ℕ). written (suc position) (suc n)) (omega arith) ∙ now-bit (suc position) bit low ∙ sym (next-bit position bit low);
  }

  -- a model, which has the bits of the states
  pub record IsWritten (model : Assignment) : Type 0 where
    pub met : IsModel model (whole (joint design automaton visits) last)
    pub bits : (position : ℕ) → position ≤ last → AreBits design automaton visits 0 (positions_of (joint_circuit design automaton visits) model position) (x position)

  pub some-written : (model : Assignment) × IsWritten model
  some-written =
      let found = says-whole (joint design automaton visits) last written (joint-closed design automaton visits sound right tests) whole-written in (
        found.0,
        record {
          met = found.1;
          bits = λ position below.
              moved-bits design automaton visits 0 0 (written position) (positions_of (joint_circuit design automaton visits) found.0 position) (x position)
              (λ k low. found.2 position below (suc (0 + k)) (omega arith) (omega arith)) (now-are position);
        },
      )
