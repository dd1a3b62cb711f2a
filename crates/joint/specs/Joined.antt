-- What contracts see of the joint states: of what they are.
use Rattle.std.specs.Prelude.{ℕ}
use Rattle.alternating_theory.specs.Obligations.{Automaton}
use Rattle.netlist.specs.Design.{Design}

pub record Joined : Type 0 where
  pub design : Design
  pub automaton : Automaton
  pub visits : ℕ
