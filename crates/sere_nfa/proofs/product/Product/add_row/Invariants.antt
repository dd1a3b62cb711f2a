use Rattle.std.proofs.Common.{◌≡◌, ◌++◌, take, map}
use Rattle.psl_tree.specs.SequenceConstruction.{state_pair}
use Rattle.sere_nfa.specs.Views.{draft_of, drafts_of}
use Rattle.sere_nfa.proofs.product.Product.add_row.Given as goal

abbrev pub invariant-loop-second : goal.invariant-loop-second
invariant-loop-second l =
    drafts_of l.into.items ≡ drafts_of l.initial.into.items
    ++ map (λ second. state_pair l.self.offset l.self.width (draft_of l.first) second) (drafts_of (take l.second-index l.seconds))
