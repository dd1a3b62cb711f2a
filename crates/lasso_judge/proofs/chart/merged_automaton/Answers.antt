use Rattle.std.proofs.Common.{sym, subst, ◌<◌, length, arith}
use Rattle.psl_tree.specs.Trees.{sequence_of}
use Rattle.psl_tree.specs.SequenceAutomata.{Automaton}
use Rattle.lasso_judge.specs.Merging.{IsMerged}
use Rattle.lasso_judge.proofs.Drawn.{some-state}
use Rattle.lasso_judge.proofs.chart.merged_automaton.Goals as goal

pub new-requires-clause-some : goal.new-requires-clause-some
new-requires-clause-some c = subst (λ (a : Automaton). 0 < length a.states) (sym c.in_ok-nfa.ensures.built) (some-state (sequence_of c.args.r.now))

pub returns-clause-merged : goal.returns-clause-merged
returns-clause-merged c = subst (λ (a : Automaton). IsMerged a.states c.in_ok-merged.merged.states) c.in_ok-nfa.ensures.built c.in_ok-merged.ensures.merged

pub returns-clause-some : goal.returns-clause-some
returns-clause-some c =
    let some = subst (λ (a : Automaton). 0 < length a.states) (sym c.in_ok-nfa.ensures.built) (some-state (sequence_of c.args.r.now)) in
    omega (arith, some, c.in_ok-merged.ensures.merged.same_length)

pub returns-clause-size : goal.returns-clause-size
returns-clause-size c = omega (arith, c.in_ok-nfa.ensures.size, c.in_ok-merged.ensures.merged.same_length)
