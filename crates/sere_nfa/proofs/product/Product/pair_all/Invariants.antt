use Rattle.std.proofs.Common.{◌≡◌, take}
use Rattle.psl_tree.specs.SequenceConstruction.{state_pairs}
use Rattle.sere_nfa.specs.Views.{drafts_of}
use Rattle.sere_nfa.proofs.product.Product.pair_all.Given as goal

abbrev pub invariant-loop-first : goal.invariant-loop-first
invariant-loop-first l =
    drafts_of l.states.items ≡ state_pairs l.self.offset l.self.width (drafts_of (take l.first-index l.firsts)) (drafts_of l.seconds)
