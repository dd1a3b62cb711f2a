use Rattle.alternating_theory.specs.Atoms.{is_among}
use Rattle.psl_tree.specs.Trees.{formula_of}
use Rattle.vcd_reader.specs.Sampled.{AtomInRange}
use Rattle.wave_judge.proofs.Searching.{step-point}
use Rattle.wave_judge.proofs.Tested.{tested-have}
use Rattle.wave_judge.proofs.settling.settled_at.Goals as goal

pub point-requires-clause-tested : goal.point-requires-clause-tested
point-requires-clause-tested c = c.in-Ok.ensures.meaning.atoms (λ atom. is_among c.in_ok-atoms.atoms atom) c.in_ok-atoms.ensures.all

pub point-requires-clause-in_range : goal.point-requires-clause-in_range
point-requires-clause-in_range c =
    tested-have (AtomInRange c.args.recording.now.names) (formula_of c.args.directive.now.formula) c.in_ok-atoms.atoms c.in_ok-atoms.ensures c.requires.in_range

pub returns : goal.returns
returns c =
    step-point c.args.side c.in-Ok.automaton c.args.directive.now c.args.recording.now c.in_ok-count.count c.in-Ok.ensures.meaning c.in_ok-count.ensures
