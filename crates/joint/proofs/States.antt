-- The joint state that is read of a slice of truth values.
use Rattle.std.proofs.Common.{◌≡◌, ℕ, suc, ◌+◌, ◌*◌, Bool, true, false, cond, List, [], ◌∷◌, ◌++◌, map, get_or, Option, Some, None, refl, sym, ap, ◌∙◌, arith}
use Rattle.std.specs.Prelude.{filter, count_by}
use Rattle.std.specs.List.{range_with_len}
use Rattle.std.proofs.lemmas.List.Elements.{filter_agree}
use Rattle.std.proofs.lemmas.List.Sums.{sum_by-cons}
use Rattle.std.proofs.lemmas.List.FromFn.{map-range_with_len_more}
use Rattle.gates_theory.specs.Unrolled.{positions_of}
use Rattle.joint_theory.specs.Queries.{joint_circuit, joint_size, path_in}
use Rattle.alternating_theory.specs.Obligations.{Automaton}
use Rattle.clauses.specs.Models.{Assignment, is_true}
use Rattle.netlist.specs.Design.{Design}
use Rattle.run_terms.specs.Formulas.{values_of}
use Rattle.run_terms.specs.Positions.{before_of, current, earlier, had, valuation_of}
use Rattle.joint_theory.specs.Bits.{count_of, state_in, owed_bit, pending_bit, count_bit}
use Rattle.joint_theory.specs.declared.path.JointState.{JointState}
use Rattle.joint.specs.Slices.{bits_from, numbers_from, count_from}
use Rattle.joint.proofs.Readings.{at}

abbrev pub seen : List Bool → ℕ → Assignment
seen values base variable = values_of values (base + variable)

-- a bit that is read from a place on
at-seen : (values : List Bool) (base start number variable : ℕ) → base + variable ≡ start + number + 1 → at values start number ≡ seen values base variable
at-seen values base start number variable e = ap (λ n. get_or values n false) (omega arith)

map_agree : (p q : ℕ → Bool) → ((x : ℕ) → p x ≡ q x) → (xs : List ℕ) → map p xs ≡ map q xs
map_agree p q agree [] = refl
map_agree p q agree (x ∷ xs) = rw (agree x, map_agree p q agree xs) refl

count_agree : (p q : ℕ → Bool) → ((x : ℕ) → p x ≡ q x) → (xs : List ℕ) → count_by p xs ≡ count_by q xs
count_agree p q agree [] = refl
count_agree p q agree (x ∷ xs) =
    sum_by-cons (λ y. cond (p y) 1 0) x xs ∙ ap (λ b. cond b 1 0 + count_by p xs) (agree x) ∙ ap (λ n. cond (q x) 1 0 + n) (count_agree p q agree xs)
    ∙ sym (sum_by-cons (λ y. cond (q y) 1 0) x xs)

pub valuation-read : (values : List Bool) (base signals : ℕ) → bits_from values (base + 1 + signals) signals ≡ valuation_of signals 0 (seen values base)
valuation-read values base signals =
    map_agree (at values (base + 1 + signals)) (λ signal. is_true (seen values base) (current signals 0 signal))
    (λ signal. at-seen values base (base + 1 + signals) signal (suc (0 + 1 + signals + signal)) (omega arith)) (range_with_len 0 signals)

pub before-read : (values : List Bool) (base signals : ℕ) → bits_from values (base + 1) signals ≡ map (λ signal. is_true (seen values base) (earlier 0 signal)) (range_with_len 0 signals)
before-read values base signals =
    map_agree (at values (base + 1)) (λ signal. is_true (seen values base) (earlier 0 signal))
    (λ signal. at-seen values base (base + 1) signal (suc (0 + 1 + signal)) (omega arith)) (range_with_len 0 signals)

pub had-read : (values : List Bool) (base : ℕ) (b : Bool) → get_or values base false ≡ b → is_true (seen values base) (had 0) ≡ b
had-read values base b is = ap (λ n. get_or values n false) (omega arith) ∙ is

pub before-some : (values : List Bool) (base signals : ℕ) → get_or values base false ≡ true → Some (bits_from values (base + 1) signals) ≡ before_of signals 0 (seen values base)
before-some values base signals is =
    ap Some (before-read values base signals)
    ∙ sym (ap (λ b. cond b (Some (map (λ signal. is_true (seen values base) (earlier 0 signal)) (range_with_len 0 signals))) None) (had-read values base true is))

pub before-none : (values : List Bool) (base signals : ℕ) → get_or values base false ≡ false → None ≡ before_of signals 0 (seen values base)
before-none values base signals is =
    sym (ap (λ b. cond b (Some (map (λ signal. is_true (seen values base) (earlier 0 signal)) (range_with_len 0 signals))) None) (had-read values base false is))

pub owed-read : (design : Design) (automaton : Automaton) (values : List Bool) (base : ℕ) (start : ℕ) → start ≡ base + 1 + design.signals + design.signals
    → numbers_from values start (count_of automaton) ≡ filter (λ number. is_true (seen values base) (owed_bit design 0 number)) (range_with_len 0 (count_of automaton))
owed-read design automaton values base start e =
    filter_agree (at values start) (λ number. is_true (seen values base) (owed_bit design 0 number))
    (λ number. at-seen values base start number (suc (0 + (1 + design.signals + design.signals) + number)) (omega arith)) (range_with_len 0 (count_of automaton))

pub pending-read : (design : Design) (automaton : Automaton) (values : List Bool) (base start : ℕ) → start ≡ base + 1 + design.signals + design.signals + count_of automaton
    → numbers_from values start (count_of automaton) ≡ filter (λ number. is_true (seen values base) (pending_bit design automaton 0 number)) (range_with_len 0 (count_of automaton))
pending-read design automaton values base start e =
    filter_agree (at values start) (λ number. is_true (seen values base) (pending_bit design automaton 0 number))
    (λ number. at-seen values base start number (suc (0 + (1 + design.signals + design.signals) + count_of automaton + number)) (omega arith)) (range_with_len 0 (count_of automaton))

pub count-read : (design : Design) (automaton : Automaton) (values : List Bool) (base start visits : ℕ)
    → start ≡ base + 1 + design.signals + design.signals + count_of automaton + count_of automaton
    → count_from values start (visits + 1) ≡ count_by (λ number. is_true (seen values base) (count_bit design automaton 0 number)) (range_with_len 0 (suc visits))
count-read design automaton values base start visits e =
    let e1 : visits + 1 ≡ suc visits = omega arith in
    ap (count_from values start) e1
    ∙ count_agree (at values start) (λ number. is_true (seen values base) (count_bit design automaton 0 number))
    (λ number. at-seen values base start number (suc (0 + (1 + design.signals + design.signals) + count_of automaton + count_of automaton + number)) (omega arith)) (range_with_len 0 (suc visits))

-- the state of its parts
pub state-is : (design : Design) (automaton : Automaton) (visits : ℕ) (v : Assignment) (before : Option (List Bool)) (valuation : List Bool) (owed pending : List ℕ) (count : ℕ)
    → before ≡ (state_in design automaton visits 0 v).before → valuation ≡ (state_in design automaton visits 0 v).valuation → owed ≡ (state_in design automaton visits 0 v).owed
    → pending ≡ (state_in design automaton visits 0 v).pending → count ≡ (state_in design automaton visits 0 v).count
    → ◌≡◌ {A = JointState} (record { before = before; valuation = valuation; owed = owed; pending = pending; count = count }) (state_in design automaton visits 0 v)
state-is design automaton visits v before valuation owed pending count a b d e f = rw (a, b, d, e, f) refl

-- the states of one position more
pub states-more : (design : Design) (automaton : Automaton) (visits position size : ℕ) (values : List Bool) (states new : List JointState) (state : JointState)
    → size ≡ joint_size design automaton visits → states ≡ (path_in design automaton visits position (values_of values)).states
    → state ≡ state_in design automaton visits 0 (seen values (position * size)) → new ≡ states ++ state ∷ []
    → new ≡ (path_in design automaton visits (position + 1) (values_of values)).states
states-more design automaton visits position size values states new state same before is added =
    let f : ℕ → JointState = λ place. state_in design automaton visits 0 (positions_of (joint_circuit design automaton visits) (values_of values) place) in
    let here : state ≡ f position = is ∙ ap (λ n. state_in design automaton visits 0 (seen values (position * n))) same in
    added ∙ ap (λ front. front ++ state ∷ []) before ∙ ap (λ s. map f (range_with_len 0 position) ++ s ∷ []) here
    ∙ sym (map-range_with_len_more f 0 position position (omega arith))
