-- What contracts see of the program's automaton, and what it keeps.
use Rattle.std.specs.Prelude.{◌<◌, ◌≤◌, length}
use Rattle.psl_tree.specs.declared.counts.TheConstants.{MOST_OBLIGATIONS}
use Rattle.alternating_theory.specs.Obligations.{Automaton}
use Rattle.alternating.specs.Views.{obligations_of_code, ObligationsWithin}
use Rattle.alternating.specs.declared.automaton.Alternating.TheInside.{Inside}

abbrev pub automaton_of : Inside → Automaton
automaton_of inside = record { start = inside.start; obligations = obligations_of_code inside.obligations.items }

-- the start and all numbers that are owed are those of its obligations, of which there are not too many
pub record IsWhole (inside : Inside) : Type 0 where
  pub start_below : inside.start < length inside.obligations.items
  pub owed_below : ObligationsWithin 0 (length inside.obligations.items) inside.obligations.items
  pub few : length inside.obligations.items ≤ MOST_OBLIGATIONS
