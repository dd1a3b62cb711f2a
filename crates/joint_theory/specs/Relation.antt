-- The relation of a joint state and one that may follow it, as terms over the bits of both. Behind these comes one
-- choice: whether nothing is pending. What is asked of the next state counts only where the state is not bad, so that a
-- path may go on from a bad one.
use Rattle.std.specs.Prelude.{ℕ, zero, suc, ◌+◌, ℤ, pos, neg_ℤ, if◌then◌else◌, List, [], ◌∷◌, ◌++◌, map, filter, fold}
use Rattle.std.specs.List.{range_with_len}
use Rattle.alternating_theory.specs.Obligations.{Automaton}
use Rattle.alternating_theory.specs.Positive.{owes}
use Rattle.gates_theory.specs.Relations.{Relation}
use Rattle.gates_theory.specs.Terms.{Term, Literal, Negation, Conjunction, Equality}
use Rattle.netlist.specs.Design.{Design}
use Rattle.run_terms.specs.Booleans.{boolean_term, either}
use Rattle.run_terms.specs.Combinations.{positive_term}
use Rattle.run_terms.specs.Moves.{move_terms}
use Rattle.run_terms.specs.Positions.{earlier, had}
use Rattle.run_terms.specs.Tables.{all_of, before_terms, guarded, valuation_terms}
use Rattle.joint_theory.specs.Bits.{bad_bit, count_bit, joint_width, numbers_of, owed_bit, pending_bit}
use Rattle.joint_theory.specs.Guards.{guards, Guard, Always, If, IfNot}
use Rattle.joint_theory.specs.States.{delta_of, is_accepting}

-- a bit of the valuation before is 1 only where there is one
abbrev pub earlier_terms : Design → ℕ → List Term
earlier_terms design base =
    map (λ signal. guarded (earlier base signal) (Literal (had base))) (range_with_len 0 design.signals)

-- what is pending is owed and not accepting
abbrev pub pending_term : Design → Automaton → ℕ → ℕ → Term
pending_term design automaton base number =
    if is_accepting automaton number then Negation (Literal (pending_bit design automaton base number))
    else guarded (pending_bit design automaton base number) (Literal (owed_bit design base number))

-- a count that is more than a number is more than the one before it
abbrev pub unary_terms : Design → Automaton → ℕ → ℕ → List Term
unary_terms design automaton visits base =
    map (λ number. guarded (count_bit design automaton base (suc number)) (Literal (count_bit design automaton base number))) (range_with_len 0 visits)

-- the bits from a base on are those of a joint state
abbrev pub state_terms : Design → Automaton → ℕ → ℕ → List Term
state_terms design automaton visits base =
    valuation_terms design.signals base design.tables
    ++ before_terms base design.tables
    ++ earlier_terms design base
    ++ map (pending_term design automaton base) (numbers_of automaton)
    ++ unary_terms design automaton visits base

-- what is owed is met by the letter and what is owed next, where the bits of the next state follow so many others
abbrev pub owed_term : Design → Automaton → ℕ → ℕ → Term
owed_term design automaton next number =
    guarded (owed_bit design 0 number)
    (positive_term design.signals 0 (λ other. Literal (owed_bit design next other)) (delta_of automaton number))

-- what is pending is met by the letter and what is owed next and accepting, or pending next
abbrev pub put_off_literal : Design → Automaton → ℕ → ℕ → ℤ
put_off_literal design automaton next other =
    if is_accepting automaton other then owed_bit design next other else pending_bit design automaton next other

abbrev pub put_off_term : Design → Automaton → ℕ → ℕ → Term
put_off_term design automaton next number =
    guarded (pending_bit design automaton 0 number)
    (positive_term design.signals 0 (λ other. Literal (put_off_literal design automaton next other)) (delta_of automaton number))

-- nothing is pending
abbrev pub emptied_bit : ℕ → ℤ
emptied_bit width = pos (suc (width + width))

abbrev pub none_literals : Design → Automaton → List ℤ
none_literals design automaton = map (λ number. neg_ℤ (pending_bit design automaton 0 number)) (numbers_of automaton)

abbrev pub emptied_term : Design → Automaton → ℕ → Term
emptied_term design automaton width = Equality (Literal (emptied_bit width)) (all_of (none_literals design automaton))

-- then what is owed next may meet what is pending: what of it is not accepting is pending next
abbrev pub anew_term : Design → Automaton → ℕ → ℕ → Term
anew_term design automaton width number =
    guarded (emptied_bit width)
    (guarded (owed_bit design width number) (Literal (put_off_literal design automaton width number)))

-- nothing is pending, and the count is more than the number before a number, if there is one
abbrev pub risen_term : Design → Automaton → ℕ → ℕ → Term
risen_term design automaton width zero = Literal (emptied_bit width)
risen_term design automaton width (suc number) =
    Conjunction (Literal (emptied_bit width)) (Literal (count_bit design automaton 0 number))

-- the next count is more than a number where the count is, or where nothing is pending and it is more than the one before
abbrev pub count_term : Design → Automaton → ℕ → ℕ → Term
count_term design automaton width number =
    Equality (Literal (count_bit design automaton width number))
    (either (Literal (count_bit design automaton 0 number)) (risen_term design automaton width number))

-- The bits of the next state follow those of the first. Its valuation follows, and what is owed and pending is met;
abbrev pub met_terms : Design → Automaton → ℕ → List Term
met_terms design automaton width =
    move_terms design.signals 0 width design.latches
    ++ map (owed_term design automaton width) (numbers_of automaton)
    ++ map (put_off_term design automaton width) (numbers_of automaton)

-- and where nothing is pending, it begins anew.
abbrev pub breakpoint_terms : Design → Automaton → ℕ → ℕ → List Term
breakpoint_terms design automaton visits width =
    (emptied_term design automaton width ∷ [])
    ++ map (anew_term design automaton width) (numbers_of automaton)
    ++ map (count_term design automaton width) (range_with_len 0 (suc visits))

-- the obligations whose deltas name the one of a number
abbrev pub askers : Automaton → ℕ → List ℕ
askers automaton number = filter (λ other. owes (delta_of automaton other) number) (numbers_of automaton)

-- an obligation is asked for under a guard, where a literal says that what asks for it is owed or pending
abbrev pub asking_term : Design → ℤ → Guard → Term
asking_term design literal Always = Literal literal
asking_term design literal (If test) = Conjunction (Literal literal) (boolean_term design.signals 0 test)
asking_term design literal (IfNot test) = Conjunction (Literal literal) (Negation (boolean_term design.signals 0 test))

-- a term, and under none of some guards it is asked for
abbrev pub unless_asking : Design → ℤ → Term → List Guard → Term
unless_asking design literal term guards =
    fold (λ other guard. Conjunction other (Negation (asking_term design literal guard))) term guards

-- a term, and none of some obligations asks for the one of a number, where each has a literal
abbrev pub unasked : Design → Automaton → (ℕ → ℤ) → ℕ → Term → List ℕ → Term
unasked design automaton bit number term numbers =
    fold (λ other asker. unless_asking design (bit asker) other (guards Always (delta_of automaton asker) number)) term numbers

-- an obligation is owed next, and nothing that is owed asks for it
abbrev pub unasked_owed : Design → Automaton → ℕ → ℕ → Term
unasked_owed design automaton width number =
    unasked design automaton (owed_bit design 0) number (Literal (owed_bit design width number)) (askers automaton number)

-- an obligation is pending next, something was pending, and nothing of that asks for it
abbrev pub pending_still : Design → Automaton → ℕ → ℕ → Term
pending_still design automaton width number =
    Conjunction (Literal (pending_bit design automaton width number)) (Literal (neg_ℤ (emptied_bit width)))

abbrev pub unasked_pending : Design → Automaton → ℕ → ℕ → Term
unasked_pending design automaton width number =
    unasked design automaton (pending_bit design automaton 0) number (pending_still design automaton width number)
    (askers automaton number)

-- Nothing is owed or pending next that nothing asks for.
abbrev pub support_terms : Design → Automaton → ℕ → List Term
support_terms design automaton width =
    map (λ number. Negation (unasked_owed design automaton width number)) (numbers_of automaton)
    ++ map (λ number. Negation (unasked_pending design automaton width number)) (numbers_of automaton)

-- the next state may follow the first
abbrev pub step_terms : Design → Automaton → ℕ → ℕ → List Term
step_terms design automaton visits width =
    met_terms design automaton width
    ++ breakpoint_terms design automaton visits width
    ++ support_terms design automaton width

-- terms that count where a state is not bad
abbrev pub unless_bad : Design → Automaton → ℕ → List Term → List Term
unless_bad design automaton visits terms = map (guarded (neg_ℤ (bad_bit design automaton visits))) terms

abbrev pub joint : Design → Automaton → ℕ → Relation
joint design automaton visits = record {
  width = joint_width design automaton visits;
  choices = 1;
  holds = state_terms design automaton visits 0
      ++ unless_bad design automaton visits (step_terms design automaton visits (joint_width design automaton visits));
}
