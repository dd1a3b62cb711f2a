-- The literals of an initial state are true just where the bits are those of one.
use Rattle.std.proofs.Common.{◌≡◌, refl, sym, ap, ◌∙◌, ℕ, suc, ◌<◌, ℤ, neg_ℤ, Bool as Truth, true, false, not, ltb, List, [], ◌∷◌, ◌++◌, map, arith}
use Rattle.std.specs.Prelude.{IsTrue, All}
use Rattle.std.specs.List.{list_all, range_with_len}
use Rattle.std.proofs.lemmas.Bool.{le-ltb, not-true, not_from_false}
use Rattle.std.proofs.lemmas.List.Elements.{All-cons, All-filter, All-nil}
use Rattle.std.proofs.lemmas.List.Kept.{IsStrictlyIncreasing-filter}
use Rattle.alternating_theory.specs.Obligations.{Automaton}
use Rattle.clauses.specs.Literals.{variable_of}
use Rattle.clauses.specs.Models.{Assignment, is_true}
use Rattle.gates_theory.specs.Circuits.{same}
use Rattle.gates_theory.proofs.Literals.{true-neg}
use Rattle.gates_theory.proofs.Parts.{same-from, same-is}
use Rattle.netlist.specs.Design.{Design}
use Rattle.netlist.specs.Sound as netlists
use Rattle.run_terms.specs.Automata as automata
use Rattle.run_terms.specs.Moves.{first_literals}
use Rattle.run_terms.proofs.Netlists.{first-says}
use Rattle.run_terms.proofs.Ranges.{all-below, below-all}
use Rattle.joint_theory.specs.Bits.{count_bit, count_of, numbers_of, owed_bit, pending_bit, AreBits}
use Rattle.joint_theory.specs.Queries.{start_literals, with_sign}
use Rattle.joint_theory.specs.States.{is_accepting, is_listed, not_accepting, IsInitial, IsState}
use Rattle.joint_theory.specs.declared.path.JointState.{JointState}
use Rattle.joint_theory.proofs.Numbers.{rising-one}
use Rattle.joint_theory.proofs.Parts.{append-from, append-parts}
use Rattle.joint_theory.proofs.Rising.{rising-same, same-count}
use Rattle.joint_theory.proofs.StateBits.{pending-numbers}

sign-value : (v : Assignment) (sign : Truth) (literal : ℤ) → 0 < variable_of literal → is_true v (with_sign sign literal) ≡ same sign (is_true v literal)
sign-value v true literal some = refl
sign-value v false literal some = true-neg v literal some

module _ (design : Design) (automaton : Automaton) (visits : ℕ) (sound : netlists.IsSound design) (right : automata.IsSound automaton)
    (v : Assignment) (x : JointState) (is : IsState design automaton visits x) (bits : AreBits design automaton visits 0 v x) where
  abbrev many : ℕ
  many = count_of automaton

  abbrev start : List ℕ
  start = automaton.start ∷ []

  abbrev start_pending : List ℕ
  start_pending = not_accepting automaton start

  start-numbers : All (λ number. number < many) start
  start-numbers = All-cons (λ number. number < many) automaton.start [] right.start (All-nil (λ number. number < many))

  abbrev owed_literals : List ℤ
  owed_literals = map (λ number. with_sign (is_listed start number) (owed_bit design 0 number)) (numbers_of automaton)

  abbrev pending_literals : List ℤ
  pending_literals = map (λ number. with_sign (is_listed start_pending number) (pending_bit design automaton 0 number)) (numbers_of automaton)

  abbrev count_literals : List ℤ
  count_literals = map (λ number. neg_ℤ (count_bit design automaton 0 number)) (range_with_len 0 (suc visits))

  pub start-says : IsTrue (list_all (is_true v) (start_literals design automaton visits)) → IsInitial design automaton x
  start-says h =
      let a = append-parts (is_true v) (first_literals design.signals 0 design.latches ++ owed_literals ++ pending_literals) count_literals h in
      let b = append-parts (is_true v) (first_literals design.signals 0 design.latches ++ owed_literals) pending_literals a.0 in
      let c = append-parts (is_true v) (first_literals design.signals 0 design.latches) owed_literals b.0 in
      let first = (first-says design 0 v x.before x.valuation sound bits.position).0 c.0 in
      record {
        valuation = record { valuation = is.valuation; latches = first.1 };
        before = first.0;
        owed = rising-same many x.owed start is.owed (rising-one automaton.start) is.numbers start-numbers
            (λ number below. sym (bits.owed number below)
            ∙ sym (same-is (is_listed start number) (is_true v (owed_bit design 0 number))
            (sym (sign-value v (is_listed start number) (owed_bit design 0 number) (omega arith))
            ∙ all-below (is_true v) (λ n. with_sign (is_listed start n) (owed_bit design 0 n)) many c.1 number below)));
        pending = rising-same many x.pending start_pending is.pending
            (IsStrictlyIncreasing-filter (λ number. not (is_accepting automaton number)) start (rising-one automaton.start)) (pending-numbers design automaton visits x is)
            (All-filter (λ number. not (is_accepting automaton number)) (λ number. number < many) start start-numbers)
            (λ number below. sym (bits.pending number below)
            ∙ sym (same-is (is_listed start_pending number) (is_true v (pending_bit design automaton 0 number))
            (sym (sign-value v (is_listed start_pending number) (pending_bit design automaton 0 number) (omega arith))
            ∙ all-below (is_true v) (λ n. with_sign (is_listed start_pending n) (pending_bit design automaton 0 n)) many b.1 number below)));
        count = same-count (suc visits) x.count 0 is.count (omega arith)
            (λ number below. sym (bits.count number below)
            ∙ not-true (is_true v (count_bit design automaton 0 number)) (sym (true-neg v (count_bit design automaton 0 number) (omega arith))
            ∙ all-below (is_true v) (λ n. neg_ℤ (count_bit design automaton 0 n)) (suc visits) a.1 number below)
            ∙ sym (le-ltb number 0 (omega arith)));
      }

  pub start-from : IsInitial design automaton x → IsTrue (list_all (is_true v) (start_literals design automaton visits))
  start-from initial =
      append-from (is_true v) (first_literals design.signals 0 design.latches ++ owed_literals ++ pending_literals) count_literals
      (append-from (is_true v) (first_literals design.signals 0 design.latches ++ owed_literals) pending_literals
      (append-from (is_true v) (first_literals design.signals 0 design.latches) owed_literals
      ((first-says design 0 v x.before x.valuation sound bits.position).1 (initial.before, initial.valuation.latches))
      (below-all (is_true v) (λ n. with_sign (is_listed start n) (owed_bit design 0 n)) many
      (λ number below. sign-value v (is_listed start number) (owed_bit design 0 number) (omega arith)
      ∙ same-from (is_listed start number) (is_true v (owed_bit design 0 number))
      (sym (bits.owed number below ∙ ap (λ (list : List ℕ). is_listed list number) initial.owed)))))
      (below-all (is_true v) (λ n. with_sign (is_listed start_pending n) (pending_bit design automaton 0 n)) many
      (λ number below. sign-value v (is_listed start_pending number) (pending_bit design automaton 0 number) (omega arith)
      ∙ same-from (is_listed start_pending number) (is_true v (pending_bit design automaton 0 number))
      (sym (bits.pending number below ∙ ap (λ (list : List ℕ). is_listed list number) initial.pending)))))
      (below-all (is_true v) (λ n. neg_ℤ (count_bit design automaton 0 n)) (suc visits)
      (λ number below. true-neg v (count_bit design automaton 0 number) (omega arith)
      ∙ not_from_false (is_true v (count_bit design automaton 0 number))
      (bits.count number below ∙ ap (ltb number) initial.count ∙ le-ltb number 0 (omega arith))))
