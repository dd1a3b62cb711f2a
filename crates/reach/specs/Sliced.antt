-- What the questions over a slice of the signals are asked of.
use Rattle.std.specs.Prelude.{◌≡◌, ℕ, ℤ, Bool as Truth, List}
use Rattle.gates_theory.specs.Relations.{circuit_of}
use Rattle.joint.specs.Joined.{Joined}
use Rattle.joint.specs.declared.slice.Slice.{Slice}
use Rattle.joint_theory.specs.Reaching.{two_states}
use Rattle.joint_theory.specs.Sliced as theory
use Rattle.joint_theory.specs.Sliced.{kept_by}
use Rattle.run_terms.specs.Formulas.{whole}
use Rattle.reach_solver.specs.Texts.{text_of}
use Rattle.reach.specs.declared.sliced.Sliced.{Sliced}

-- how many variables a formula over a slice has, its clauses for two neighbours, and those for an entry into a cube
abbrev pub sliced_variables : Joined → Slice → ℕ
sliced_variables joined slice =
    theory.sliced_variables joined.design joined.automaton joined.visits (kept_by slice.now) (kept_by slice.before)

abbrev pub sliced_pair : Joined → Slice → List (List ℤ)
sliced_pair joined slice =
    whole (theory.sliced_pair joined.design joined.automaton joined.visits (kept_by slice.now) (kept_by slice.before)) 0

abbrev pub sliced_relative : Joined → Slice → List (List ℤ) → Truth → List ℤ → List (List ℤ)
sliced_relative joined slice frame initial cube =
    theory.sliced_relative joined.design joined.automaton joined.visits (kept_by slice.now) (kept_by slice.before)
    frame initial cube

-- the formula is that of two neighbours over the slice, and the circuit that of two neighbours
pub record IsSliced (joined : Joined) (sliced : Sliced) : Type 0 where
  pub variables : sliced.pair.variables ≡ sliced_variables joined sliced.slice
  pub clauses : sliced.pair.clauses ≡ sliced_pair joined sliced.slice
  pub text : sliced.text ≡ text_of sliced.pair.clauses
  pub circuit : sliced.circuit ≡ circuit_of (two_states joined.design joined.automaton joined.visits)
