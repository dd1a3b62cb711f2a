use Rattle.std.proofs.Common.{rules}
use Rattle.sere_nfa.specs.Views.{drafts_of}
use Rattle.sere_nfa.proofs.Loops.{state_row-more}
use Rattle.sere_nfa.proofs.product.Product.pair_all.Goals as goal

pub loop-first-preserved : goal.loop-first-preserved
loop-first-preserved c =
    state_row-more c.args.self.offset c.args.self.width c.args.firsts.now (drafts_of c.args.seconds.now)
    c.loop-first.first-index c.first-item.result (drafts_of c.loop-first.states.items) (drafts_of c.add_row.new.into.items)
    (search rules) c.loop-first.invariant (search rules)
