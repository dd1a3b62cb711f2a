use Rattle.std.proofs.Common.{subst, sym}
use Rattle.alternating_theory.specs.Atoms.{AtomsOfPositive}
use Rattle.psl_tree.specs.Names.{AtomInRange}
use Rattle.bounded_theory.proofs.Atoms.{atoms-of}
use Rattle.prover_held.proofs.letters.is_met.Goals as goal

pub meets-requires-clause-atoms : goal.meets-requires-clause-atoms
meets-requires-clause-atoms c =
    subst (λ positive. AtomsOfPositive (AtomInRange c.args.netlist.now.names) positive) (sym c.delta-delta.ensures.shown)
    (atoms-of (AtomInRange c.args.netlist.now.names) c.args.automaton.now.obligations c.requires.tests c.args.number c.requires.number)
