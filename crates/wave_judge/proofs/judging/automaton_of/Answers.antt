use Rattle.psl_tree.specs.Trees.{formula_of}
use Rattle.wave_judge.proofs.Verdicts.{means}
use Rattle.wave_judge.proofs.judging.automaton_of.Goals as goal

pub returns-in-Ok-clause-meaning : goal.returns-in-Ok-clause-meaning
returns-in-Ok-clause-meaning c =
    means c.in-Ok.automaton c.args.directive.now (formula_of c.in_ok-plain.plain) c.in-Ok.ensures.values c.in-Ok.ensures.atoms c.in_ok-plain.ensures.meaning c.in_ok-plain.ensures.atoms
