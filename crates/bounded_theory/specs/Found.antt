-- What a search finds: a run whose word an automaton accepts.
use Rattle.std.specs.Prelude.{◌≡◌, ℕ, zero, suc, ◌+◌, Bool as Truth, if◌then◌else◌, length}
use Rattle.netlist.specs.Design.{Design}
use Rattle.netlist.specs.Runs.{IsRun, word}
use Rattle.netlist.specs.declared.run.Run.{Run}
use Rattle.alternating_theory.specs.Obligations.{Automaton}
use Rattle.alternating_theory.specs.Acceptance.{Accepts}

-- the least number that passes a test, or the bound where none below it does
abbrev pub first_passing : ℕ → (ℕ → Truth) → ℕ
first_passing zero test = 0
first_passing (suc bound) test = if test 0 then 0 else suc (first_passing bound (λ number. test (suc number)))

-- how many valuations a run has
abbrev pub run_size : Run → ℕ
run_size run = length run.stem + length run.loop_part

-- a run of the netlist with so many valuations, whose word the automaton accepts
pub record IsFound (design : Design) (automaton : Automaton) (valuations : ℕ) (run : Run) : Type 0 where
  pub is : IsRun design run
  pub size : run_size run ≡ valuations
  pub accepted : Accepts automaton (word design run)

abbrev pub SomeFound : Design → Automaton → ℕ → Type 0
SomeFound design automaton valuations = ((run : Run) → IsFound design automaton valuations run → ⊥) → ⊥
