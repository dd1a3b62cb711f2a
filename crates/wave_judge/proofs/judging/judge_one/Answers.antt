use Rattle.alternating_theory.specs.Atoms.{is_among}
use Rattle.psl_tree.specs.Trees.{formula_of}
use Rattle.vcd_reader.specs.Sampled.{AtomInRange}
use Rattle.wave_judge.proofs.Tested.{tested-have}
use Rattle.wave_judge.proofs.judging.judge_one.Goals as goal

pub answers-requires-clause-tested : goal.answers-requires-clause-tested
answers-requires-clause-tested c = c.in_ok-automaton.ensures.meaning.atoms (λ atom. is_among c.in_ok-atoms.atoms atom) c.in_ok-atoms.ensures.all

pub answers-requires-clause-in_range : goal.answers-requires-clause-in_range
answers-requires-clause-in_range c =
    tested-have (AtomInRange c.args.recording.now.names) (formula_of c.args.directive.now.formula) c.in_ok-atoms.atoms c.in_ok-atoms.ensures c.requires.in_range
