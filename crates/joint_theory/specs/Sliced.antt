-- The relation of two neighbours over a slice of the signals: whether a signal is kept now, and whether it is kept in the
-- valuation before. It has the bits of the whole relation, with the same numbers, and of its terms those of the kept
-- signals' tables and latches and all that the automaton asks. A formula over it has the models of the whole one, and
-- maybe more: so where it has none, there is no such pair of neighbours. Nothing is asked of the slice.
use Rattle.std.specs.Prelude.{ℕ, suc, ◌+◌, ℤ, neg_ℤ, Bool as Truth, false, List, [], ◌∷◌, ◌++◌, map, filter, length, slice_index_or, IsTrue}
use Rattle.std.specs.List.{range_with_len}
use Rattle.alternating_theory.specs.Obligations.{Automaton}
use Rattle.gates_theory.specs.Circuits.{AreSame}
use Rattle.gates_theory.specs.Relations.{Relation, circuit_of}
use Rattle.gates_theory.specs.Terms.{Term, Literal}
use Rattle.gates_theory.specs.Unrolled.{units}
use Rattle.clauses.specs.Literals.{clauses_within}
use Rattle.clauses.specs.Models.{Assignment, IsModel}
use Rattle.joint_selectors.specs.Missed.{values_from}
use Rattle.netlist.specs.Design.{Design}
use Rattle.netlist.specs.declared.latch.Latch.{Latch}
use Rattle.netlist.specs.declared.table.Table.{Table}
use Rattle.run_terms.specs.Formulas.{whole, HasModel}
use Rattle.run_terms.specs.Moves.{latch_term, same_term}
use Rattle.run_terms.specs.Positions.{current, earlier, had}
use Rattle.run_terms.specs.Tables.{before_terms, guarded, valuation_terms}
use Rattle.joint_theory.specs.Bits.{joint_width, numbers_of}
use Rattle.joint_theory.specs.Reaching.{start_units}
use Rattle.joint_theory.specs.Relation.{breakpoint_terms, owed_term, pending_term, put_off_term, support_terms, unary_terms}
use Rattle.joint_theory.specs.Sets.{bits_of}
use Rattle.joint_theory.specs.declared.path.JointState.{JointState}

-- truth values, one for each signal, that say which are kept
abbrev pub kept_by : List Truth → ℕ → Truth
kept_by kept signal = slice_index_or kept signal false

-- the tables and the latches that drive kept signals, and the kept signals
abbrev pub kept_tables : Design → (ℕ → Truth) → List Table
kept_tables design kept = filter (λ table. kept table.output) design.tables

abbrev pub kept_latches : Design → (ℕ → Truth) → List Latch
kept_latches design kept = filter (λ latch. kept latch.output) design.latches

abbrev pub kept_signals : Design → (ℕ → Truth) → List ℕ
kept_signals design kept = filter kept (range_with_len 0 design.signals)

-- a bit of the valuation before is 1 only where there is one
abbrev pub earlier_term : ℕ → ℕ → Term
earlier_term base signal = guarded (earlier base signal) (Literal (had base))

-- the value before of a signal is the one that it has in the first state, with the bits of the next from a base on
abbrev pub shift_term : Design → ℕ → ℕ → Term
shift_term design next signal = same_term (earlier next signal) (current design.signals 0 signal)

-- what of a state hangs on the automaton alone
abbrev pub own_terms : Design → Automaton → ℕ → ℕ → List Term
own_terms design automaton visits base =
    map (pending_term design automaton base) (numbers_of automaton) ++ unary_terms design automaton visits base

-- the bits are those of a state, as far as the slice goes
abbrev pub sliced_first : Design → Automaton → ℕ → (ℕ → Truth) → (ℕ → Truth) → List Term
sliced_first design automaton visits now before =
    valuation_terms design.signals 0 (kept_tables design now)
    ++ before_terms 0 (kept_tables design before)
    ++ map (earlier_term 0) (kept_signals design before)
    ++ own_terms design automaton visits 0

-- So are those of the next state, which follow so many others. What the tables say of its valuation before follows from
-- the step.
abbrev pub sliced_next : Design → Automaton → ℕ → ℕ → (ℕ → Truth) → (ℕ → Truth) → List Term
sliced_next design automaton visits width now before =
    valuation_terms design.signals width (kept_tables design now)
    ++ map (earlier_term width) (kept_signals design before)
    ++ own_terms design automaton visits width

-- the valuation follows, as far as the slice goes
abbrev pub sliced_moves : Design → ℕ → (ℕ → Truth) → (ℕ → Truth) → List Term
sliced_moves design width now before =
    (Literal (had width) ∷ [])
    ++ map (shift_term design width) (kept_signals design before)
    ++ map (latch_term design.signals 0 width) (kept_latches design now)

-- what is owed and pending is met
abbrev pub asked_terms : Design → Automaton → ℕ → List Term
asked_terms design automaton width =
    map (owed_term design automaton width) (numbers_of automaton)
    ++ map (put_off_term design automaton width) (numbers_of automaton)

-- the next state may follow the first, as far as the slice goes
abbrev pub sliced_step : Design → Automaton → ℕ → ℕ → (ℕ → Truth) → (ℕ → Truth) → List Term
sliced_step design automaton visits width now before =
    sliced_moves design width now before
    ++ asked_terms design automaton width
    ++ breakpoint_terms design automaton visits width
    ++ support_terms design automaton width

-- what holds of a state and one that follows it, as far as the slice goes
abbrev pub sliced_pair : Design → Automaton → ℕ → (ℕ → Truth) → (ℕ → Truth) → Relation
sliced_pair design automaton visits now before = record {
  width = 0;
  choices = suc (joint_width design automaton visits + joint_width design automaton visits);
  holds = sliced_first design automaton visits now before
      ++ sliced_next design automaton visits (joint_width design automaton visits) now before
      ++ sliced_step design automaton visits (joint_width design automaton visits) now before;
}

abbrev pub sliced_variables : Design → Automaton → ℕ → (ℕ → Truth) → (ℕ → Truth) → ℕ
sliced_variables design automaton visits now before = length (circuit_of (sliced_pair design automaton visits now before)).gates

-- a state that meets a frame and does not meet all of a cube, and is initial where that is asked, and a neighbour that
-- meets all of the cube, as far as the slice goes
abbrev pub sliced_relative : Design → Automaton → ℕ → (ℕ → Truth) → (ℕ → Truth) → List (List ℤ) → Truth → List ℤ → List (List ℤ)
sliced_relative design automaton visits now before frame initial cube =
    whole (sliced_pair design automaton visits now before) 0
    ++ frame
    ++ (map neg_ℤ cube ∷ [])
    ++ units (joint_width design automaton visits) cube
    ++ start_units design automaton visits initial

-- A formula over so many variables misses no pair of states of a kind, where the bits of the second are behind those of
-- the first: it names no further variables; each such pair has a model with the bits of both; and where it has no model,
-- there is no such pair.
pub record MissesNone (design : Design) (automaton : Automaton) (visits variables : ℕ) (formula : List (List ℤ)) (named : JointState → JointState → Type 0) : Type 0 where
  pub within : IsTrue (clauses_within variables formula)
  pub writes : (state next : JointState) → named state next
      → (values : Assignment) × IsModel values formula
      × AreSame (joint_width design automaton visits) values (bits_of design automaton visits state)
      × AreSame (joint_width design automaton visits) (values_from (joint_width design automaton visits) values)
      (bits_of design automaton visits next)
  pub none : (HasModel variables formula → ⊥) → (state next : JointState) → named state next → ⊥
