use Rattle.std.proofs.Common.{rules}
use Rattle.psl_tree.specs.SequenceConstruction.{fused}
use Rattle.sere_nfa.specs.Views.{draft_of}
use Rattle.sere_nfa.proofs.InPlace.{changed-none, changed-more, changed-all}
use Rattle.sere_nfa.proofs.state.fuse_all.Goals as goal

pub loop-state-init : goal.loop-state-init
loop-state-init c = changed-none draft_of (λ state. fused (draft_of c.args.next.now) state) c.args.states.now

pub loop-state-preserved : goal.loop-state-preserved
loop-state-preserved c =
    changed-more draft_of (λ state. fused (draft_of c.args.next.now) state) c.args.states.now c.loop-state.states c.loop-state.state-index
    c.state-item.result c.fuse.new.self c.loop-state.invariant (search rules) c.in_ok-fuse.ensures

pub returns : goal.returns
returns c = changed-all draft_of (λ state. fused (draft_of c.args.next.now) state) c.args.states.now c.loop-state.states c.loop-state.state-index
    c.loop-state.invariant (search rules)
