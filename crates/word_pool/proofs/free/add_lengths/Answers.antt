use Rattle.word_pool.proofs.Freeing.{lengths_none}
use Rattle.word_pool.proofs.free.add_lengths.Goals as goal

pub loop-init : goal.loop-init
loop-init c = lengths_none c.args.firsts.now.items
