-- What is asked of an automaton, so that terms over bits can say what it says.
use Rattle.std.specs.Prelude.{ℕ, ◌<◌, length}
use Rattle.alternating_theory.specs.Atoms.{AtomsOfObligations}
use Rattle.alternating_theory.specs.Obligations.{Automaton, obligation_at}
use Rattle.alternating_theory.specs.Positive.{OwesWithin}
use Rattle.netlist.specs.Design.{Design}
use Rattle.psl_tree.specs.Names.{AtomInRange}

-- the start is an obligation, and so is all that obligations owe
pub record IsSound (automaton : Automaton) : Type 0 where
  pub start : automaton.start < length automaton.obligations
  pub owed : (number : ℕ) → number < length automaton.obligations
      → OwesWithin 0 (length automaton.obligations) (obligation_at automaton.obligations number).delta

-- what an automaton tests are signals of the netlist
abbrev pub TestsSignals : Design → Automaton → Type 0
TestsSignals design automaton = AtomsOfObligations (AtomInRange design.names) automaton.obligations
