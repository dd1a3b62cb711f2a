-- Joint states from what is owed and pending at a place.
use Rattle.std.proofs.Common.{◌≡◌, inl, inr, sym, ap, ◌∙◌, subst, ℕ, suc, ◌+◌, ◌<◌, ◌≤◌, Bool as Truth, List, length, arith}
use Rattle.std.specs.Prelude.{min}
use Rattle.std.proofs.lemmas.Bool.{cases_lt}
use Rattle.alternating_theory.specs.Obligations.{Automaton}
use Rattle.joint_theory.specs.States.{not_accepting, AreAsked}
use Rattle.joint_theory.specs.declared.path.JointState.{JointState}
use Rattle.netlist.specs.Design.{Design}
use Rattle.prover_held.specs.Lasting.{letter_in}
use Rattle.prover_open.specs.Standing.{state_of, AreOwed, AreRising, AreWaiting, IsOffered, IsPendingBy, Stands}

module _ (path : List (List Truth)) (place : ℕ) (owed pending : List ℕ) (count : ℕ) (state : JointState) (is : state ≡ state_of path place owed pending count) where
  pub stated : Stands path place state
  stated = record { before = ap (λ (s : JointState). s.before) is; valuation = ap (λ (s : JointState). s.valuation) is }

  pub stated-owed : (automaton : Automaton) → AreRising automaton owed → AreWaiting automaton owed pending → count ≤ 1 → AreOwed automaton state
  stated-owed automaton are wait low = subst (AreOwed automaton) (sym is) (record { owed = are; pending = wait; count = low })

one-least : (n : ℕ) → min (suc n) 1 ≡ 1
one-least n = omega arith

pub offers : (d : Design) (automaton : Automaton) (path : List (List Truth)) (place : ℕ) (now : JointState) (owed pending : List ℕ) (count : ℕ) (state : JointState)
    → AreRising automaton owed → AreAsked automaton (letter_in d path place) now.owed owed → IsPendingBy automaton (letter_in d path place) now owed pending
    → (length now.pending ≡ 0 → count ≡ 1) → (0 < length now.pending → count ≡ now.count) → now.count ≤ 1
    → state ≡ state_of path (place + 1) owed pending count → IsOffered d automaton path place now state
offers d automaton path place now owed pending count state are asked by anew same low is =
    let e : place + 1 ≡ suc place = omega arith in
    let f : state ≡ state_of path (suc place) owed pending count = is ∙ ap (λ n. state_of path n owed pending count) e in
    let owes : state.owed ≡ owed = ap (λ (s : JointState). s.owed) is in
    let waits : state.pending ≡ pending = ap (λ (s : JointState). s.pending) is in
    let counts : state.count ≡ count = ap (λ (s : JointState). s.count) is in
    record {
      stands = stated path (suc place) owed pending count state f;
      owes = stated-owed path (suc place) owed pending count state f automaton are by.waiting at_most;
      supported = subst (AreAsked automaton (letter_in d path place) now.owed) (sym owes) asked;
      pending = λ some. subst (AreAsked automaton (letter_in d path place) now.pending) (sym waits) (by.asked some);
      count = λ some. counts ∙ same some;
      anew = λ none. record {
        pending = waits ∙ by.anew none ∙ ap (not_accepting automaton) (sym owes);
        count = counts ∙ anew none ∙ sym (one-least now.count);
      };
    }
  where
    at_most : count ≤ 1
    at_most = elim (cases_lt 0 (length now.pending)) [
      | inl k ↦ let e = same k in omega (arith, e, low)
      | inr k ↦ let e = anew (omega arith) in omega (arith, e)
    ]
