-- Where the automaton accepts the word of a run, some joint walk leads from an initial state to a bad one. So it accepts
-- none where a window has no open path, and none where some clauses are inductive.
use Rattle.std.proofs.Common.{refl, ℕ, zero, suc, ◌≤◌, List, ℤ, arith}
use Rattle.std.specs.Prelude.{IsTrue}
use Rattle.std.proofs.lemmas.Bool.{both_ways}
use Rattle.alternating_theory.specs.Courses.{letter_at as word_letter, next_place, places}
use Rattle.alternating_theory.specs.Obligations.{Automaton}
use Rattle.alternating_theory.specs.Acceptance.{Accepts}
use Rattle.netlist.specs.Design.{Design}
use Rattle.netlist.specs.Runs.{valuation_at, word, IsRun}
use Rattle.netlist.specs.declared.run.Run.{Run}
use Rattle.joint_theory.specs.Paths.{IsClosedAt}
use Rattle.joint_theory.specs.Sets.{is_met, IsInductive}
use Rattle.joint_theory.specs.States.{IsBad, IsInitial}
use Rattle.joint_theory.specs.declared.path.JointState.{JointState}
use Rattle.joint_theory.proofs.Breakpoints.{gets-bad}
use Rattle.joint_theory.proofs.Closed.{closed-none, IsJointWalk}
use Rattle.run_terms.specs.Letters.{before_at}
use Rattle.run_terms.proofs.LetterRuns.{word-letter}
use Rattle.joint_theory.proofs.RunPlaces.{next-within, next-before, next-step, word-places}

module _ (design : Design) (automaton : Automaton) (visits : ℕ) where
  -- there is no joint walk from an initial state to a bad one
  abbrev pub NoneGetsBad : Type 0
  NoneGetsBad = (last : ℕ) (walk : ℕ → JointState) → IsJointWalk design automaton visits last walk
      → IsInitial design automaton (walk 0) → IsBad visits (walk last) → ⊥

  pub accepted-walks : NoneGetsBad → (run : Run) → IsRun design run → Accepts automaton (word design run) → ⊥
  accepted-walks none run is accepts =
      let w = word design run in
      accepts (λ entry entries.
      let found = gets-bad design automaton visits (places w) (word_letter w) (next_place w) entry entries (valuation_at run) (before_at run)
      (omega (arith, word-places design run is)) (next-within design run is) (word-letter design run) (next-step design run is) (next-before design run is)
      is.begins refl in
      none found.0 found.1 found.2 found.3 found.4)

  pub none-accepted : (window : ℕ) → IsClosedAt design automaton visits window → (run : Run) → IsRun design run → Accepts automaton (word design run) → ⊥
  none-accepted window closed = accepted-walks (closed-none design automaton visits window closed)

  -- the states of a walk from an initial one meet inductive clauses
  module _ (clauses : List (List ℤ)) (inductive : IsInductive design automaton visits clauses) where
    walk-meets : (last : ℕ) (walk : ℕ → JointState) → IsJointWalk design automaton visits last walk → IsInitial design automaton (walk 0)
        → (place : ℕ) → place ≤ last → IsTrue (is_met design automaton visits clauses (walk place))
    walk-meets last walk w first zero below = inductive.initial (walk 0) (w.is 0 below) first
    walk-meets last walk w first (suc place) below =
        inductive.step (walk place) (walk (suc place)) (w.is place (omega arith)) (w.is (suc place) below) (w.linked place below)
        (walk-meets last walk w first place (omega arith))

    pub inductive-none : (run : Run) → IsRun design run → Accepts automaton (word design run) → ⊥
    inductive-none = accepted-walks (λ last walk w first bad.
        both_ways (is_met design automaton visits clauses (walk last)) (inductive.bad (walk last) (w.is last (omega arith)) bad)
        (walk-meets last walk w first last (omega arith)))
