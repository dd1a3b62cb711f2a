-- Joint states: what the signals of a netlist are, and what an alternating automaton owes there (the breakpoints of
-- Miyano and Hayashi, Alternating finite automata on omega-words).
use Rattle.std.specs.Prelude.{◌≡◌, ℕ, suc, ◌<◌, ◌≤◌, min, Bool as Truth, false, not, ◌&&◌, ◌||◌, ◌==◌, List, [], ◌∷◌, filter, length, None, Some, IfSome, IsTrue, All, Contains}
use Rattle.std.specs.List.{list_any}
use Rattle.std.specs.List.Sorted.{IsStrictlyIncreasing}
use Rattle.alternating_theory.specs.Obligations.{Automaton, obligation_at}
use Rattle.alternating_theory.specs.Positive.{Positive, met}
use Rattle.netlist.specs.Design.{Design}
use Rattle.netlist.specs.Valuations.{IsValuation, IsInitial as IsInitialValuation, IsStep}
use Rattle.psl_tree.specs.declared.letter.Letter.{Letter}
use Rattle.run_terms.specs.Letters.{letter_after}
use Rattle.joint_theory.specs.Guards.{asks}
use Rattle.joint_theory.specs.declared.path.JointState.{JointState}

-- whether a number stands in a list
abbrev pub is_listed : List ℕ → ℕ → Truth
is_listed numbers number = list_any (λ other. other == number) numbers

-- whether the obligation of a number is accepting, and what it asks
abbrev pub is_accepting : Automaton → ℕ → Truth
is_accepting automaton number = (obligation_at automaton.obligations number).accepting

abbrev pub delta_of : Automaton → ℕ → Positive
delta_of automaton number = (obligation_at automaton.obligations number).delta

-- whether one of some obligations asks for the one of a number at the next place, on a letter, and each of some is so
-- asked for
abbrev pub is_asked : Automaton → Letter → List ℕ → ℕ → Truth
is_asked automaton letter numbers number = list_any (λ other. asks letter (delta_of automaton other) number) numbers

abbrev pub AreAsked : Automaton → Letter → List ℕ → List ℕ → Type 0
AreAsked automaton letter numbers asked = All (λ number. IsTrue (is_asked automaton letter numbers number)) asked

-- those of some obligations that are not accepting
abbrev pub not_accepting : Automaton → List ℕ → List ℕ
not_accepting automaton numbers = filter (λ number. not (is_accepting automaton number)) numbers

-- A joint state: a valuation, and the one before it if there is one; obligations of the automaton, each once and in
-- order; some of them that are not accepting; and a count of at most one more than the visits.
pub record IsState (design : Design) (automaton : Automaton) (visits : ℕ) (state : JointState) : Type 0 where
  pub before : IfSome state.before (IsValuation design)
  pub valuation : IsValuation design state.valuation
  pub owed : IsStrictlyIncreasing state.owed
  pub numbers : All (λ number. number < length automaton.obligations) state.owed
  pub pending : IsStrictlyIncreasing state.pending
  pub among : All (Contains state.owed) state.pending
  pub put_off : All (λ number. is_accepting automaton number ≡ false) state.pending
  pub count : state.count ≤ suc visits

-- it is bad where its count is more than the visits
abbrev pub IsBad : ℕ → JointState → Type 0
IsBad visits state = visits < state.count

-- It is initial where a run may begin with its valuation and none is before it, the start alone is owed, which is
-- pending where it is not accepting, and nothing has been counted.
pub record IsInitial (design : Design) (automaton : Automaton) (state : JointState) : Type 0 where
  pub valuation : IsInitialValuation design state.valuation
  pub before : state.before ≡ None
  pub owed : state.owed ≡ automaton.start ∷ []
  pub pending : state.pending ≡ not_accepting automaton (automaton.start ∷ [])
  pub count : state.count ≡ 0

-- the letter of a joint state
abbrev pub letter_in : Design → JointState → Letter
letter_in design state = letter_after design.names state.before state.valuation

-- each of some obligations is met by a letter and by obligations at the next place
abbrev pub AreMet : Automaton → Letter → (ℕ → Truth) → List ℕ → Type 0
AreMet automaton letter next numbers = All (λ number. IsTrue (met (delta_of automaton number) letter next)) numbers

-- whether what is pending may be met by an obligation of the next state: one that is owed there, and is accepting or
-- pending
abbrev pub may_meet : Automaton → JointState → ℕ → Truth
may_meet automaton next number = is_listed next.owed number && (is_accepting automaton number || is_listed next.pending number)

-- while something is pending, what meets it is accepting or pending in its place, and nothing else becomes pending than
-- what it asks for
pub record PutsOff (design : Design) (automaton : Automaton) (state next : JointState) : Type 0 where
  pub met : AreMet automaton (letter_in design state) (may_meet automaton next) state.pending
  pub supported : AreAsked automaton (letter_in design state) state.pending next.pending
  pub count : next.count ≡ state.count

-- where nothing is pending, all that is owed next and not accepting becomes so, and the count rises up to one more than
-- the visits
pub record BeginsAnew (automaton : Automaton) (visits : ℕ) (state next : JointState) : Type 0 where
  pub pending : next.pending ≡ not_accepting automaton next.owed
  pub count : next.count ≡ min (suc state.count) (suc visits)

-- Two joint states of which the second may follow the first: its valuation may follow the first one's, which is the one
-- before it; what the first one owes is met, and nothing is owed next that it does not ask for; and what is pending is put
-- off, or was none and begins anew.
pub record AreNeighbours (design : Design) (automaton : Automaton) (visits : ℕ) (state next : JointState) : Type 0 where
  pub step : IsStep design state.valuation next.valuation
  pub before : next.before ≡ Some state.valuation
  pub owed : AreMet automaton (letter_in design state) (is_listed next.owed) state.owed
  pub supported : AreAsked automaton (letter_in design state) state.owed next.owed
  pub put_off : 0 < length state.pending → PutsOff design automaton state next
  pub anew : length state.pending ≡ 0 → BeginsAnew automaton visits state next
