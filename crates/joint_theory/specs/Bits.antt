-- The bits of a joint state, from a base on: those of its position, where the bits of the valuation before are 0 if there
-- is none; then which obligations are owed, and which are pending; and then whether the count is at least 1, at least 2,
-- and so on up to one more than the visits. Bits are variables, counted from 1; obligations are counted from 0.
use Rattle.std.specs.Prelude.{◌≡◌, ℕ, suc, ◌+◌, ◌<◌, ℤ, pos, Bool as Truth, false, nat_lt, List, ◌++◌, map, filter, length, count_by, None}
use Rattle.std.specs.List.{range_with_len}
use Rattle.clauses.specs.Models.{Assignment, is_true}
use Rattle.alternating_theory.specs.Obligations.{Automaton}
use Rattle.netlist.specs.Design.{Design}
use Rattle.run_terms.specs.Positions.{before_of, earlier, position_bits, position_width, valuation_of, IsPosition}
use Rattle.joint_theory.specs.States.{is_listed}
use Rattle.joint_theory.specs.declared.path.JointState.{JointState}

-- the numbers of an automaton's obligations
abbrev pub count_of : Automaton → ℕ
count_of automaton = length automaton.obligations

abbrev pub numbers_of : Automaton → List ℕ
numbers_of automaton = range_with_len 0 (count_of automaton)

-- an obligation is owed
abbrev pub owed_bit : Design → ℕ → ℕ → ℤ
owed_bit design base number = pos (suc (base + position_width design.signals + number))

-- an obligation is pending
abbrev pub pending_bit : Design → Automaton → ℕ → ℕ → ℤ
pending_bit design automaton base number = pos (suc (base + position_width design.signals + count_of automaton + number))

-- the count is more than a number
abbrev pub count_bit : Design → Automaton → ℕ → ℕ → ℤ
count_bit design automaton base number =
    pos (suc (base + position_width design.signals + count_of automaton + count_of automaton + number))

-- how many bits these are
abbrev pub joint_width : Design → Automaton → ℕ → ℕ
joint_width design automaton visits =
    position_width design.signals + count_of automaton + count_of automaton + suc visits

-- the count is more than the visits
abbrev pub bad_bit : Design → Automaton → ℕ → ℤ
bad_bit design automaton visits = count_bit design automaton 0 visits

-- the bits from a base on are those of a joint state
pub record AreBits (design : Design) (automaton : Automaton) (visits base : ℕ) (values : Assignment) (state : JointState) : Type 0 where
  pub position : IsPosition design.signals base values state.before state.valuation
  pub none_before : state.before ≡ None → (signal : ℕ) → signal < design.signals
      → is_true values (earlier base signal) ≡ false
  pub owed : (number : ℕ) → number < count_of automaton
      → is_true values (owed_bit design base number) ≡ is_listed state.owed number
  pub pending : (number : ℕ) → number < count_of automaton
      → is_true values (pending_bit design automaton base number) ≡ is_listed state.pending number
  pub count : (number : ℕ) → number < suc visits
      → is_true values (count_bit design automaton base number) ≡ nat_lt number state.count

-- the joint state that bits from a base on are those of
abbrev pub state_in : Design → Automaton → ℕ → ℕ → Assignment → JointState
state_in design automaton visits base values = record {
  before = before_of design.signals base values;
  valuation = valuation_of design.signals base values;
  owed = filter (λ number. is_true values (owed_bit design base number)) (numbers_of automaton);
  pending = filter (λ number. is_true values (pending_bit design automaton base number)) (numbers_of automaton);
  count = count_by (λ number. is_true values (count_bit design automaton base number)) (range_with_len 0 (suc visits));
}

-- the bits of a joint state
abbrev pub state_bits : Design → Automaton → ℕ → JointState → List Truth
state_bits design automaton visits state =
    position_bits design.signals state.before state.valuation
    ++ map (is_listed state.owed) (numbers_of automaton)
    ++ map (is_listed state.pending) (numbers_of automaton)
    ++ map (λ number. nat_lt number state.count) (range_with_len 0 (suc visits))
