use Rattle.std.proofs.Common.{ℕ, List}
use Rattle.psl_tree.specs.declared.atom.Atom.{Atom}
use Rattle.alternating_theory.specs.Obligations.{Automaton}
use Rattle.alternating_blocks.proofs.Settled.{AllSettled}
use Rattle.alternating_blocks.proofs.equations.Equations.hold.Given as goal
use Rattle.alternating_blocks.specs.Equations.{AreEquations}

abbrev pub invariant-loop-number : goal.invariant-loop-number
invariant-loop-number l =
    (automaton : Automaton) (atoms : List Atom) (columns : List ℕ) → AreEquations automaton atoms columns l.self
    → AllSettled automaton.obligations atoms columns l.self.after.now l.words l.number
