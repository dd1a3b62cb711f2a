-- The bits of a position: they are within the variables, and each choice of valuations has bits.
use Rattle.std.proofs.Common.{◌≡◌, ℕ, suc, ◌+◌, ◌<◌, ◌≤◌, Bool, true, false, cond, List, ◌++◌, map, length, get_or, Option, Some, None, refl, sym, ap, ◌∙◌, arith}
use Rattle.std.specs.Prelude.{is_some}
use Rattle.std.specs.Bool.{IsTrue}
use Rattle.std.specs.List.{range_with_len}
use Rattle.std.proofs.lemmas.List.{get_or_append_left, get_or-append-add, length-append, length-replicate}
use Rattle.std.proofs.lemmas.List.FromFn.{length-map-range_with_len, get_or-map-range_with_len}
use Rattle.clauses.specs.Literals.{is_within}
use Rattle.clauses.specs.Models.{Assignment, is_true}
use Rattle.netlist.specs.Valuations.{bit}
use Rattle.run_terms.specs.Positions.{had, earlier, current, position_width, HasSizes, IsPosition, valuation_of, before_of, earlier_bits, position_bits}
use Rattle.run_terms.proofs.Logic.{pos_within}

pub had-within : (signals base variables : ℕ) → base + position_width signals ≤ variables → IsTrue (is_within variables (had base))
had-within signals base variables fits = pos_within variables (suc base) (omega arith) (omega arith)

pub earlier-within : (signals base variables signal : ℕ) → base + position_width signals ≤ variables → signal < signals → IsTrue (is_within variables (earlier base signal))
earlier-within signals base variables signal fits below = pos_within variables (suc (base + 1 + signal)) (omega arith) (omega arith)

pub current-within : (signals base variables signal : ℕ) → base + position_width signals ≤ variables → signal < signals → IsTrue (is_within variables (current signals base signal))
current-within signals base variables signal fits below = pos_within variables (suc (base + 1 + signals + signal)) (omega arith) (omega arith)

-- the values of bits are those of the valuations that they are read as
pub valuation_of-length : (signals base : ℕ) (values : Assignment) → length (valuation_of signals base values) ≡ signals
valuation_of-length signals base values = length-map-range_with_len (λ signal. is_true values (current signals base signal)) 0 signals

pub valuation_of-bit : (signals base : ℕ) (values : Assignment) (signal : ℕ) → signal < signals → bit (valuation_of signals base values) signal ≡ is_true values (current signals base signal)
valuation_of-bit signals base values signal below =
    get_or-map-range_with_len (λ other. is_true values (current signals base other)) 0 signals signal signal false below (omega arith)

read_before : ℕ → ℕ → Assignment → List Bool
read_before signals base values = map (λ signal. is_true values (earlier base signal)) (range_with_len 0 signals)

read_before-bit : (signals base : ℕ) (values : Assignment) (signal : ℕ) → signal < signals → is_true values (earlier base signal) ≡ bit (map (λ signal. is_true values (earlier base signal)) (range_with_len 0 signals)) signal
read_before-bit signals base values signal below =
    sym (get_or-map-range_with_len (λ other. is_true values (earlier base other)) 0 signals signal signal false below (omega arith))

some_by : (b : Bool) (xs : List Bool) → b ≡ is_some (cond b (Some xs) None)
some_by true xs = refl
some_by false xs = refl

which_by : (b : Bool) (xs previous : List Bool) → cond b (Some xs) None ≡ Some previous → xs ≡ previous
which_by true xs previous e = cc
which_by false xs previous e = absurd (cc)

pub read-position : (signals base : ℕ) (values : Assignment) → IsPosition signals base values (before_of signals base values) (valuation_of signals base values)
read-position signals base values =
    let xs : List Bool = map (λ signal. is_true values (earlier base signal)) (range_with_len 0 signals) in
    record {
      preceded = some_by (is_true values (had base)) xs;
      bits_before = λ previous is signal below.
          read_before-bit signals base values signal below ∙ ap (λ ys. bit ys signal) (which_by (is_true values (had base)) xs previous is);
      bits = λ signal below. sym (valuation_of-bit signals base values signal below);
    }

pub before_of-length : (signals base : ℕ) (values : Assignment) (previous : List Bool) → before_of signals base values ≡ Some previous → length previous ≡ signals
before_of-length signals base values previous is =
    let xs : List Bool = map (λ signal. is_true values (earlier base signal)) (range_with_len 0 signals) in
    ap length (sym (which_by (is_true values (had base)) xs previous is)) ∙ length-map-range_with_len (λ signal. is_true values (earlier base signal)) 0 signals

pub read-sizes : (signals base : ℕ) (values : Assignment) → HasSizes signals (before_of signals base values) (valuation_of signals base values)
read-sizes signals base values = record { size_before = before_of-length signals base values; size = valuation_of-length signals base values }

pub earlier_bits-length : (signals : ℕ) (before : Option (List Bool)) (valuation : List Bool) → HasSizes signals before valuation → length (earlier_bits signals before) ≡ signals
earlier_bits-length signals None valuation sized = length-replicate signals false
earlier_bits-length signals (Some before) valuation sized = sized.size_before before refl

pub position_bits-length : (signals : ℕ) (before : Option (List Bool)) (valuation : List Bool) → HasSizes signals before valuation → length (position_bits signals before valuation) ≡ position_width signals
position_bits-length signals before valuation sized =
    omega (arith, earlier_bits-length signals before valuation sized, sized.size, length-append (earlier_bits signals before) valuation)

-- an assignment that has the bits of a position from a base on
pub position-from : (signals base : ℕ) (values : Assignment) (before : Option (List Bool)) (valuation : List Bool) → HasSizes signals before valuation
    → ((k : ℕ) → k < position_width signals → values (suc (base + k)) ≡ get_or (position_bits signals before valuation) k false)
    → IsPosition signals base values before valuation
position-from signals base values before valuation sized is =
    let front = earlier_bits signals before in
    let long = earlier_bits-length signals before valuation sized in
    record {
      preceded = ap (λ n. values (suc n)) (omega arith) ∙ is 0 (omega arith);
      bits_before = λ previous some signal below.
          let here : signal < length front = omega (arith, long) in
          let same_bits : earlier_bits signals before ≡ previous = ap (earlier_bits signals) some in
          let there : get_or (position_bits signals before valuation) (suc signal) false ≡ get_or (front ++ valuation) signal false = refl in
          ap (λ n. values (suc n)) (omega arith) ∙ is (suc signal) (omega arith) ∙ there ∙ get_or_append_left front valuation false signal here
          ∙ ap (λ xs. get_or xs signal false) same_bits;
      bits = λ signal below.
          let there : get_or (position_bits signals before valuation) (suc (signals + signal)) false ≡ get_or (front ++ valuation) (signals + signal) false = refl in
          let moved : get_or (front ++ valuation) (signals + signal) false ≡ get_or (front ++ valuation) (length front + signal) false =
          ap (λ n. get_or (front ++ valuation) n false) (omega (arith, long)) in
          ap (λ n. values (suc n)) (omega arith) ∙ is (suc (signals + signal)) (omega arith) ∙ there ∙ moved ∙ get_or-append-add front valuation signal false;
    }
