use Rattle.std.proofs.Common.{false}
use Rattle.psl_tree.specs.SequenceAutomata.{State}
use Rattle.alternating_theory.specs.Going.{goes_on}
use Rattle.alternating.proofs.Edges.{mark-at}
use Rattle.alternating.proofs.stage.Stage.leads_on.Goals as goal

pub returns : goal.returns
returns c =
    mark-at (λ (state : State). goes_on c.args.self.now.nfa.now.states state.edges) c.args.self.now.nfa.now.states c.args.self.now.ongoing.now c.args.state false c.requires.marked c.requires.below
