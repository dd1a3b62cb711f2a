-- The terms of a joint state are true just where the bits from a base on are those of one.
use Rattle.std.proofs.Common.{◌≡◌, refl, sym, ap, ◌∙◌, subst, ℕ, suc, ◌<◌, Bool as Truth, true, false, not, ◌&&◌, List, ◌++◌, map, length, get_or, Option, None, Some, arith}
use Rattle.std.specs.Prelude.{IsTrue, All, Contains, IfSome, filter, is_some, if◌then◌else◌}
use Rattle.std.specs.List.{list_all, range_with_len}
use Rattle.std.proofs.lemmas.Bool.{both_ways, lt-ltb, ltb-true, not-true, not_from_false, false_from_ne_true}
use Rattle.std.proofs.lemmas.List.Elements.{All-filter, filter_passes}
use Rattle.std.proofs.lemmas.List.FromFn.{length-range_with_len}
use Rattle.std.proofs.lemmas.List.Sums.{count_by-le-length}
use Rattle.clauses.specs.Models.{Assignment, is_true}
use Rattle.gates_theory.specs.Terms.{value}
use Rattle.gates_theory.specs.Terms.Term.{Literal, Negation}
use Rattle.alternating_theory.specs.Obligations.{Automaton}
use Rattle.netlist.specs.Design.{Design}
use Rattle.netlist.specs.Sound as netlists
use Rattle.netlist.specs.Valuations.{Agree, IsValuation}
use Rattle.run_terms.specs.Positions.{before_of, earlier, had, valuation_of}
use Rattle.run_terms.specs.Tables.{before_terms, guarded, valuation_terms}
use Rattle.run_terms.proofs.Logic.{guarded-says, guarded-from}
use Rattle.run_terms.proofs.Netlists.{valuation-says, before-says}
use Rattle.run_terms.proofs.Positions.{read-position, read-sizes}
use Rattle.run_terms.proofs.Ranges.{all-below, below-all}
use Rattle.joint_theory.specs.Bits.{count_bit, count_of, numbers_of, owed_bit, pending_bit, state_in, AreBits}
use Rattle.joint_theory.specs.Relation.{earlier_terms, pending_term, state_terms, unary_terms}
use Rattle.joint_theory.specs.States.{is_accepting, is_listed, IsState}
use Rattle.joint_theory.specs.declared.path.JointState.{JointState}
use Rattle.joint_theory.proofs.Numbers.{contains-listed, listed-contains, listed-filter, listed-range, rising-filter}
use Rattle.joint_theory.proofs.Parts.{append-from, append-parts}
use Rattle.joint_theory.proofs.Rising.{range-all, unary-count}

if-some : (P : List Truth → Type 0) (o : Option (List Truth)) → ((previous : List Truth) → o ≡ Some previous → P previous) → IfSome o P
if-some P None each = tt
if-some P (Some previous) each = each previous refl

some-if : (P : List Truth → Type 0) (o : Option (List Truth)) → IfSome o P → (previous : List Truth) → o ≡ Some previous → P previous
some-if P o h previous some = subst (λ (p : Option (List Truth)). IfSome p P) some h

not-none : (o : Option (List Truth)) → is_some o ≡ true → o ≡ None → ⊥
not-none o h none = both_ways false refl (sym (ap (λ (p : Option (List Truth)). is_some p) none) ∙ h)

some-not_none : (o : Option (List Truth)) → (o ≡ None → ⊥) → is_some o ≡ true
some-not_none None h = absurd (h refl)
some-not_none (Some x) h = refl

module _ (design : Design) (automaton : Automaton) (visits : ℕ) (sound : netlists.IsSound design) (base : ℕ) where
  abbrev many : ℕ
  many = count_of automaton

  -- the value of what is asked of a pending obligation
  pending-says : (v : Assignment) (number : ℕ) (b : Truth) → is_accepting automaton number ≡ b
      → IsTrue (value v (pending_term design automaton base number)) → is_true v (pending_bit design automaton base number) ≡ true
      → IsTrue (is_true v (owed_bit design base number)) × (is_accepting automaton number ≡ false)
  pending-says v number true e h on =
      let here : IsTrue (not (is_true v (pending_bit design automaton base number))) =
      ap (λ (t : Truth). value v (if t then Negation (Literal (pending_bit design automaton base number)) else guarded (pending_bit design automaton base number) (Literal (owed_bit design base number)))) (sym e) ∙ h in
      absurd (both_ways (is_true v (pending_bit design automaton base number)) (not-true (is_true v (pending_bit design automaton base number)) here) on)
  pending-says v number false e h on =
      let here : IsTrue (value v (guarded (pending_bit design automaton base number) (Literal (owed_bit design base number)))) =
      ap (λ (t : Truth). value v (if t then Negation (Literal (pending_bit design automaton base number)) else guarded (pending_bit design automaton base number) (Literal (owed_bit design base number)))) (sym e) ∙ h in
      (guarded-says v (pending_bit design automaton base number) (Literal (owed_bit design base number)) here on, e)

  pending-from : (v : Assignment) (number : ℕ) (b : Truth) → is_accepting automaton number ≡ b
      → (is_true v (pending_bit design automaton base number) ≡ true → IsTrue (is_true v (owed_bit design base number)) × (is_accepting automaton number ≡ false))
      → IsTrue (value v (pending_term design automaton base number))
  pending-from v number true e h =
      ap (λ (t : Truth). value v (if t then Negation (Literal (pending_bit design automaton base number)) else guarded (pending_bit design automaton base number) (Literal (owed_bit design base number)))) e
      ∙ not_from_false (is_true v (pending_bit design automaton base number))
      (false_from_ne_true (is_true v (pending_bit design automaton base number)) (λ on. both_ways (is_accepting automaton number) (h on).1 e))
  pending-from v number false e h =
      ap (λ (t : Truth). value v (if t then Negation (Literal (pending_bit design automaton base number)) else guarded (pending_bit design automaton base number) (Literal (owed_bit design base number)))) e
      ∙ guarded-from v (pending_bit design automaton base number) (Literal (owed_bit design base number)) (λ on. (h on).0)

  -- what stands in the lists that bits are read as
  read-listed : (test : ℕ → Truth) (number : ℕ) → number < many → test number ≡ is_listed (filter test (numbers_of automaton)) number
  read-listed test number below =
      sym (listed-filter test (numbers_of automaton) number ∙ ap (λ t. t && test number) (listed-range 0 many number (omega arith) (omega arith)))

  -- what the terms say
  record Says (v : Assignment) : Type 0 where
    now : Agree design.tables (valuation_of design.signals base v)
    before : (previous : List Truth) → before_of design.signals base v ≡ Some previous → Agree design.tables previous
    none_before : (signal : ℕ) → signal < design.signals → is_true v (earlier base signal) ≡ true → is_true v (had base) ≡ true
    pending : (number : ℕ) → number < many → is_true v (pending_bit design automaton base number) ≡ true
        → IsTrue (is_true v (owed_bit design base number)) × (is_accepting automaton number ≡ false)
    unary : (number : ℕ) → number < visits → is_true v (count_bit design automaton base (suc number)) ≡ true → is_true v (count_bit design automaton base number) ≡ true

  terms-say : (v : Assignment) → IsTrue (list_all (value v) (state_terms design automaton visits base)) → Says v
  terms-say v h =
      let a = append-parts (value v) (valuation_terms design.signals base design.tables ++ before_terms base design.tables ++ earlier_terms design base ++ map (pending_term design automaton base) (numbers_of automaton))
      (unary_terms design automaton visits base) h in
      let b = append-parts (value v) (valuation_terms design.signals base design.tables ++ before_terms base design.tables ++ earlier_terms design base)
      (map (pending_term design automaton base) (numbers_of automaton)) a.0 in
      let c = append-parts (value v) (valuation_terms design.signals base design.tables ++ before_terms base design.tables) (earlier_terms design base) b.0 in
      let d = append-parts (value v) (valuation_terms design.signals base design.tables) (before_terms base design.tables) c.0 in
      let position = read-position design.signals base v in
      record {
        now = (valuation-says design base v (before_of design.signals base v) (valuation_of design.signals base v) sound position).0 d.0;
        before = (before-says design base v (before_of design.signals base v) (valuation_of design.signals base v) sound position).0 d.1;
        none_before = λ signal below.
            guarded-says v (earlier base signal) (Literal (had base)) (all-below (value v) (λ s. guarded (earlier base s) (Literal (had base))) design.signals c.1 signal below);
        pending = λ number below.
            pending-says v number (is_accepting automaton number) refl (all-below (value v) (pending_term design automaton base) many b.1 number below);
        unary = λ number below.
            guarded-says v (count_bit design automaton base (suc number)) (Literal (count_bit design automaton base number))
            (all-below (value v) (λ n. guarded (count_bit design automaton base (suc n)) (Literal (count_bit design automaton base n))) visits a.1 number below);
      }

  -- the state that the bits are read as

  says-bits : (v : Assignment) → Says v → AreBits design automaton visits base v (state_in design automaton visits base v)
  says-bits v says = record {
    position = read-position design.signals base v;
    none_before = λ none signal below.
        false_from_ne_true (is_true v (earlier base signal))
        (λ on. not-none (before_of design.signals base v) (sym (read-position design.signals base v).preceded ∙ says.none_before signal below on) none);
    owed = read-listed (λ number. is_true v (owed_bit design base number));
    pending = read-listed (λ number. is_true v (pending_bit design automaton base number));
    count = λ number below.
        ap (λ (n : ℕ). is_true v (count_bit design automaton base n)) (omega arith) ∙ unary-count (λ n. is_true v (count_bit design automaton base n)) (suc visits) 0
        (λ i low on. ap (λ (n : ℕ). is_true v (count_bit design automaton base n)) (omega arith) ∙ says.unary i (omega arith)
        (ap (λ (n : ℕ). is_true v (count_bit design automaton base n)) (omega arith) ∙ on)) number below;
  }

  says-state : (v : Assignment) → Says v → IsState design automaton visits (state_in design automaton visits base v)
  says-state v says = record {
    before = if-some (IsValuation design) (before_of design.signals base v)
        (λ previous some. record { size = (read-sizes design.signals base v).size_before previous some; tables = says.before previous some });
    valuation = record { size = (read-sizes design.signals base v).size; tables = says.now };
    owed = rising-filter (λ number. is_true v (owed_bit design base number)) many;
    numbers = All-filter (λ number. is_true v (owed_bit design base number)) (λ number. number < many) (numbers_of automaton)
        (range-all (λ number. number < many) 0 many (λ number _ below. omega arith));
    pending = rising-filter (λ number. is_true v (pending_bit design automaton base number)) many;
    among = pending-each (Contains (filter (λ number. is_true v (owed_bit design base number)) (numbers_of automaton)))
        (λ number below on. listed-contains (filter (λ n. is_true v (owed_bit design base n)) (numbers_of automaton)) number
        (sym (read-listed (λ n. is_true v (owed_bit design base n)) number below) ∙ (says.pending number below on).0));
    put_off = pending-each (λ number. is_accepting automaton number ≡ false) (λ number below on. (says.pending number below on).1);
    count =
        omega (arith, count_by-le-length (λ number. is_true v (count_bit design automaton base number)) (range_with_len 0 (suc visits)), length-range_with_len 0 (suc visits));
  }
    where
      pending-each : (P : ℕ → Type 0) → ((number : ℕ) → number < many → is_true v (pending_bit design automaton base number) ≡ true → P number)
          → All P (filter (λ number. is_true v (pending_bit design automaton base number)) (numbers_of automaton))
      pending-each P each k other below =
          let kept = filter_passes (λ number. is_true v (pending_bit design automaton base number)) (numbers_of automaton) k other below in
          let low = All-filter (λ number. is_true v (pending_bit design automaton base number)) (λ number. number < many) (numbers_of automaton)
          (range-all (λ number. number < many) 0 many (λ number _ high. omega arith)) k other below in
          each (get_or (filter (λ number. is_true v (pending_bit design automaton base number)) (numbers_of automaton)) k other) low kept

  pub state-read : (v : Assignment) → IsTrue (list_all (value v) (state_terms design automaton visits base))
      → IsState design automaton visits (state_in design automaton visits base v) × AreBits design automaton visits base v (state_in design automaton visits base v)
  state-read v h = let says = terms-say v h in (says-state v says, says-bits v says)

  -- and the bits of a state make the terms true
  pub state-written : (v : Assignment) (x : JointState) → IsState design automaton visits x → AreBits design automaton visits base v x
      → IsTrue (list_all (value v) (state_terms design automaton visits base))
  state-written v x is bits =
      append-from (value v) (valuation_terms design.signals base design.tables ++ before_terms base design.tables ++ earlier_terms design base ++ map (pending_term design automaton base) (numbers_of automaton))
      (unary_terms design automaton visits base)
      (append-from (value v) (valuation_terms design.signals base design.tables ++ before_terms base design.tables ++ earlier_terms design base)
      (map (pending_term design automaton base) (numbers_of automaton))
      (append-from (value v) (valuation_terms design.signals base design.tables ++ before_terms base design.tables) (earlier_terms design base)
      (append-from (value v) (valuation_terms design.signals base design.tables) (before_terms base design.tables)
      ((valuation-says design base v x.before x.valuation sound bits.position).1 is.valuation.tables)
      ((before-says design base v x.before x.valuation sound bits.position).1 (λ previous some. (some-if (IsValuation design) x.before is.before previous some).tables)))
      (below-all (value v) (λ s. guarded (earlier base s) (Literal (had base))) design.signals
      (λ signal below. guarded-from v (earlier base signal) (Literal (had base))
      (λ on. bits.position.preceded ∙ some-not_none x.before (λ none. both_ways (is_true v (earlier base signal)) (bits.none_before none signal below) on)))))
      (below-all (value v) (pending_term design automaton base) many (λ number below. pending-from v number (is_accepting automaton number) refl (pending-is number below))))
      (below-all (value v) (λ n. guarded (count_bit design automaton base (suc n)) (Literal (count_bit design automaton base n))) visits
      (λ number below. guarded-from v (count_bit design automaton base (suc number)) (Literal (count_bit design automaton base number))
      (λ on. bits.count number (omega arith) ∙ lt-ltb number x.count
      (let more = ltb-true (suc number) x.count (sym (bits.count (suc number) (omega arith)) ∙ on) in omega arith))))
    where
      pending-is : (number : ℕ) → number < many → is_true v (pending_bit design automaton base number) ≡ true
          → IsTrue (is_true v (owed_bit design base number)) × (is_accepting automaton number ≡ false)
      pending-is number below on = by (listed-contains x.pending number (sym (bits.pending number below) ∙ on))
        where
          by : (k : ℕ) × (k < length x.pending) × (get_or x.pending k number ≡ number) → IsTrue (is_true v (owed_bit design base number)) × (is_accepting automaton number ≡ false)
          by c = (
            bits.owed number below ∙ contains-listed x.owed number (subst (Contains x.owed) c.2 (is.among c.0 number c.1)),
            subst (λ (n : ℕ). is_accepting automaton n ≡ false) c.2 (is.put_off c.0 number c.1),
          )
