use Rattle.std.proofs.Common.{subst, sym}
use Rattle.std.specs.Prelude.{slice_index}
use Rattle.alternating_theory.specs.Atoms.{AtomsOfPositive}
use Rattle.psl_tree.specs.Names.{AtomInRange}
use Rattle.bounded_theory.proofs.Atoms.{atoms-of}
use Rattle.prover_open.proofs.asking.asked_by.Goals as goal

pub mark_asked-requires-clause-atoms : goal.mark_asked-requires-clause-atoms
mark_asked-requires-clause-atoms c =
    let number = slice_index c.args.numbers.now c.loop-number.number-index in
    subst (λ positive. AtomsOfPositive (AtomInRange c.args.reading.netlist.now.names) positive) (sym c.delta-delta.ensures.shown)
    (atoms-of (AtomInRange c.args.reading.netlist.now.names) c.args.reading.automaton.now.obligations c.requires.tests number
    (c.requires.numbers c.loop-number.number-index 0 c.loop-number-test.true))
