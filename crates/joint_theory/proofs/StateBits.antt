-- The bits of a joint state: each state has bits, bits tell which state it is, and they may stand elsewhere.
use Rattle.std.proofs.Common.{◌≡◌, refl, sym, ap, ◌∙◌, subst, ℕ, zero, suc, ◌+◌, ◌<◌, Bool as Truth, false, ltb, List, ◌++◌, map, length, get_or, Option, None, Some, arith}
use Rattle.std.specs.Prelude.{All, IfSome, filter, count_by}
use Rattle.std.specs.List.{range_with_len}
use Rattle.std.proofs.lemmas.Bool.{cond-true, cond-false}
use Rattle.std.proofs.lemmas.List.{length-append, get_or_append_left, get_or-append-add, get_or-replicate}
use Rattle.std.proofs.lemmas.List.FromFn.{fill_by_all, length-map-range_with_len, get_or-map-range_with_len}
use Rattle.clauses.specs.Models.{Assignment, is_true}
use Rattle.alternating_theory.specs.Obligations.{Automaton}
use Rattle.netlist.specs.Design.{Design}
use Rattle.netlist.specs.Valuations.{IsValuation}
use Rattle.run_terms.specs.Positions.{before_of, current, earlier, earlier_bits, had, position_bits, position_width, valuation_of, HasSizes, IsPosition}
use Rattle.run_terms.proofs.Positions.{position-from, position_bits-length}
use Rattle.joint_theory.specs.Bits.{count_bit, count_of, joint_width, numbers_of, owed_bit, pending_bit, state_bits, state_in, AreBits}
use Rattle.joint_theory.specs.States.{is_listed, IsState}
use Rattle.joint_theory.specs.declared.path.JointState.{JointState}
use Rattle.joint_theory.proofs.Rising.{filter-is, count-is}

module _ (design : Design) (automaton : Automaton) (visits : ℕ) where
  abbrev width : ℕ
  width = joint_width design automaton visits

  abbrev many : ℕ
  many = count_of automaton

  -- the same bits elsewhere

  -- the variables behind one number have the values of those behind another
  abbrev pub AreMoved : ℕ → ℕ → Assignment → Assignment → Type 0
  AreMoved from to values others = (k : ℕ) → k < joint_width design automaton visits → others (suc (to + k)) ≡ values (suc (from + k))

  at-bit : (from to : ℕ) (v w : Assignment) → AreMoved from to v w → (k i j : ℕ) → k < width → i ≡ suc (from + k) → j ≡ suc (to + k) → w j ≡ v i
  at-bit from to v w moved k i j below e f = ap w f ∙ moved k below ∙ ap v (sym e)

  pub moved-bits : (from to : ℕ) (v w : Assignment) (x : JointState) → AreMoved from to v w → AreBits design automaton visits from v x → AreBits design automaton visits to w x
  moved-bits from to v w x moved bits = record {
    position = record {
      preceded = at-bit from to v w moved 0 (suc from) (suc to) (omega arith) (omega arith) (omega arith) ∙ bits.position.preceded;
      bits_before = λ previous some signal below.
          at-bit from to v w moved (1 + signal) (suc (from + 1 + signal)) (suc (to + 1 + signal)) (omega arith) (omega arith) (omega arith)
          ∙ bits.position.bits_before previous some signal below;
      bits = λ signal below.
          at-bit from to v w moved (1 + design.signals + signal) (suc (from + 1 + design.signals + signal)) (suc (to + 1 + design.signals + signal))
          (omega arith) (omega arith) (omega arith) ∙ bits.position.bits signal below;
    };
    none_before = λ none signal below.
        at-bit from to v w moved (1 + signal) (suc (from + 1 + signal)) (suc (to + 1 + signal)) (omega arith) (omega arith) (omega arith)
        ∙ bits.none_before none signal below;
    owed = λ number below.
        at-bit from to v w moved (position_width design.signals + number) (suc (from + position_width design.signals + number))
        (suc (to + position_width design.signals + number)) (omega arith) (omega arith) (omega arith) ∙ bits.owed number below;
    pending = λ number below.
        at-bit from to v w moved (position_width design.signals + many + number) (suc (from + position_width design.signals + many + number))
        (suc (to + position_width design.signals + many + number)) (omega arith) (omega arith) (omega arith) ∙ bits.pending number below;
    count = λ number below.
        at-bit from to v w moved (position_width design.signals + many + many + number) (suc (from + position_width design.signals + many + many + number))
        (suc (to + position_width design.signals + many + many + number)) (omega arith) (omega arith) (omega arith) ∙ bits.count number below;
  }

  -- the state that bits are read as

  state-parts : (b b' : Option (List Truth)) (v v' : List Truth) (o o' p p' : List ℕ) (c c' : ℕ) → b ≡ b' → v ≡ v' → o ≡ o' → p ≡ p' → c ≡ c'
      → ◌≡◌ {A = JointState} (record { before = b; valuation = v; owed = o; pending = p; count = c }) (record { before = b'; valuation = v'; owed = o'; pending = p'; count = c' })
  state-parts b b' v v' o o' p p' c c' e f g h i = rw (e, f, g, h, i) refl

  pub state-sizes : (x : JointState) → IsState design automaton visits x → HasSizes design.signals x.before x.valuation
  state-sizes x is = record {
    size_before = λ previous some. (subst (λ (o : Option (List Truth)). IfSome o (IsValuation design)) some is.before).size;
    size = is.valuation.size;
  }

  read-before : (base : ℕ) (v : Assignment) (before : Option (List Truth)) (valuation : List Truth) → IsPosition design.signals base v before valuation
      → HasSizes design.signals before valuation → before_of design.signals base v ≡ before
  read-before base v None valuation is sizes =
      cond-false (is_true v (had base)) (Some (map (λ signal. is_true v (earlier base signal)) (range_with_len 0 design.signals))) None is.preceded
  read-before base v (Some before) valuation is sizes =
      cond-true (is_true v (had base)) (Some (map (λ signal. is_true v (earlier base signal)) (range_with_len 0 design.signals))) None is.preceded
      ∙ ap Some (sym (fill_by_all (λ signal. is_true v (earlier base signal)) before design.signals false (sizes.size_before before refl)
      (λ signal below. sym (is.bits_before before refl signal below))))

  read-valuation : (base : ℕ) (v : Assignment) (before : Option (List Truth)) (valuation : List Truth) → IsPosition design.signals base v before valuation
      → HasSizes design.signals before valuation → valuation_of design.signals base v ≡ valuation
  read-valuation base v before valuation is sizes =
      sym (fill_by_all (λ signal. is_true v (current design.signals base signal)) valuation design.signals false sizes.size (λ signal below. sym (is.bits signal below)))

  pub pending-numbers : (x : JointState) → IsState design automaton visits x → All (λ number. number < many) x.pending
  pending-numbers x is k other below = by (get_or x.pending k other) (is.among k other below)
    where
      by : (number : ℕ) → (j : ℕ) × (j < length x.owed) × (get_or x.owed j number ≡ number) → number < many
      by number c = subst (λ (n : ℕ). n < many) c.2 (is.numbers c.0 number c.1)

  pub read-back : (base : ℕ) (v : Assignment) (x : JointState) → AreBits design automaton visits base v x → IsState design automaton visits x
      → state_in design automaton visits base v ≡ x
  read-back base v x bits is =
      state-parts (before_of design.signals base v) x.before (valuation_of design.signals base v) x.valuation
      (filter (λ number. is_true v (owed_bit design base number)) (numbers_of automaton)) x.owed
      (filter (λ number. is_true v (pending_bit design automaton base number)) (numbers_of automaton)) x.pending
      (count_by (λ number. is_true v (count_bit design automaton base number)) (range_with_len 0 (suc visits))) x.count
      (read-before base v x.before x.valuation bits.position (state-sizes x is))
      (read-valuation base v x.before x.valuation bits.position (state-sizes x is))
      (filter-is (λ number. is_true v (owed_bit design base number)) many x.owed is.owed is.numbers bits.owed)
      (filter-is (λ number. is_true v (pending_bit design automaton base number)) many x.pending is.pending (pending-numbers x is) bits.pending)
      (count-is (λ number. is_true v (count_bit design automaton base number)) (suc visits) 0 x.count is.count
      (λ i below. ap (λ (n : ℕ). is_true v (count_bit design automaton base n)) (omega arith) ∙ bits.count i below))

  -- states with the same bits are the same
  pub same-state : (from to : ℕ) (v w : Assignment) (x y : JointState) → AreMoved from to v w → AreBits design automaton visits from v x → AreBits design automaton visits to w y
      → IsState design automaton visits x → IsState design automaton visits y → x ≡ y
  same-state from to v w x y moved bits also is too =
      sym (read-back to w x (moved-bits from to v w x moved bits) is) ∙ read-back to w y also too

  -- each state has bits

  abbrev owed_bits : JointState → List Truth
  owed_bits x = map (is_listed x.owed) (numbers_of automaton)

  abbrev pending_bits : JointState → List Truth
  pending_bits x = map (is_listed x.pending) (numbers_of automaton)

  abbrev count_bits : JointState → List Truth
  count_bits x = map (λ number. ltb number x.count) (range_with_len 0 (suc visits))

  pub length-bits : (x : JointState) → HasSizes design.signals x.before x.valuation → length (state_bits design automaton visits x) ≡ joint_width design automaton visits
  length-bits x sizes =
      omega (
        arith,
        length-append (position_bits design.signals x.before x.valuation ++ owed_bits x ++ pending_bits x) (count_bits x),
        length-append (position_bits design.signals x.before x.valuation ++ owed_bits x) (pending_bits x),
        length-append (position_bits design.signals x.before x.valuation) (owed_bits x),
        position_bits-length design.signals x.before x.valuation sizes,
        length-map-range_with_len (is_listed x.owed) 0 many,
        length-map-range_with_len (is_listed x.pending) 0 many,
        length-map-range_with_len (λ number. ltb number x.count) 0 (suc visits),
      )

  -- a bit of the second of two lists
  in-second : (first second : List Truth) (k n : ℕ) → length first ≡ n → get_or (first ++ second) (n + k) false ≡ get_or second k false
  in-second first second k n e = ap (λ (i : ℕ). get_or (first ++ second) (i + k) false) (sym e) ∙ get_or-append-add first second k false

  no-earlier : (before : Option (List Truth)) (valuation : List Truth) (signal : ℕ) → before ≡ None → signal < design.signals
      → get_or (position_bits design.signals before valuation) (suc signal) false ≡ false
  no-earlier None valuation signal none below =
      get_or_append_left (earlier_bits design.signals None) valuation false signal (omega (arith, length-none)) ∙ get_or-replicate design.signals signal false false below
    where
      length-none : length (earlier_bits design.signals None) ≡ design.signals
      length-none = replicated design.signals
        where
          replicated : (n : ℕ) → length (earlier_bits n None) ≡ n
          replicated zero = refl
          replicated (suc n) = ap suc (replicated n)
  no-earlier (Some before) valuation signal none below = absurd (cc)

  module _ (base : ℕ) (v : Assignment) (x : JointState) (sizes : HasSizes design.signals x.before x.valuation)
      (each : (k : ℕ) → k < joint_width design automaton visits → v (suc (base + k)) ≡ get_or (state_bits design automaton visits x) k false) where
    abbrev front : List Truth
    front = position_bits design.signals x.before x.valuation

    front-length : length front ≡ position_width design.signals
    front-length = position_bits-length design.signals x.before x.valuation sizes

    owed-length : length (owed_bits x) ≡ many
    owed-length = length-map-range_with_len (is_listed x.owed) 0 many

    pending-length : length (pending_bits x) ≡ many
    pending-length = length-map-range_with_len (is_listed x.pending) 0 many

    two-length : length (front ++ owed_bits x) ≡ position_width design.signals + many
    two-length = omega (arith, length-append front (owed_bits x), front-length, owed-length)

    three-length : length (front ++ owed_bits x ++ pending_bits x) ≡ position_width design.signals + many + many
    three-length = omega (arith, length-append (front ++ owed_bits x) (pending_bits x), two-length, pending-length)

    in-three : (k : ℕ) → k < position_width design.signals + many + many → v (suc (base + k)) ≡ get_or (front ++ owed_bits x ++ pending_bits x) k false
    in-three k below = each k (omega arith) ∙ get_or_append_left (front ++ owed_bits x ++ pending_bits x) (count_bits x) false k (omega (arith, three-length))

    in-two : (k : ℕ) → k < position_width design.signals + many → v (suc (base + k)) ≡ get_or (front ++ owed_bits x) k false
    in-two k below = in-three k (omega arith) ∙ get_or_append_left (front ++ owed_bits x) (pending_bits x) false k (omega (arith, two-length))

    in-front : (k : ℕ) → k < position_width design.signals → v (suc (base + k)) ≡ get_or front k false
    in-front k below = in-two k (omega arith) ∙ get_or_append_left front (owed_bits x) false k (omega (arith, front-length))

    pub bits-from : AreBits design automaton visits base v x
    bits-from = record {
      position = position-from design.signals base v x.before x.valuation sizes in-front;
      none_before = λ none signal below.
          ap (λ (n : ℕ). v (suc n)) (omega arith) ∙ in-front (suc signal) (omega arith) ∙ no-earlier x.before x.valuation signal none below;
      owed = λ number below.
          ap (λ (n : ℕ). v (suc n)) (omega arith) ∙ in-two (position_width design.signals + number) (omega arith)
          ∙ in-second front (owed_bits x) number (position_width design.signals) front-length
          ∙ get_or-map-range_with_len (is_listed x.owed) 0 many number number false below (omega arith);
      pending = λ number below.
          ap (λ (n : ℕ). v (suc n)) (omega arith) ∙ in-three (position_width design.signals + many + number) (omega arith)
          ∙ in-second (front ++ owed_bits x) (pending_bits x) number (position_width design.signals + many) two-length
          ∙ get_or-map-range_with_len (is_listed x.pending) 0 many number number false below (omega arith);
      count = λ number below.
          ap (λ (n : ℕ). v (suc n)) (omega arith) ∙ each (position_width design.signals + many + many + number) (omega arith)
          ∙ in-second (front ++ owed_bits x ++ pending_bits x) (count_bits x) number (position_width design.signals + many + many) three-length
          ∙ get_or-map-range_with_len (λ i. ltb i x.count) 0 (suc visits) number number false below (omega arith);
    }
