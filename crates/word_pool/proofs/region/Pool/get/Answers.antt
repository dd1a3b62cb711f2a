use Rattle.std.proofs.lemmas.List.{take_rest}
use Rattle.word_pool.proofs.Sound.{has_run_of_live, list_of_run}
use Rattle.word_pool.proofs.region.Pool.get.Goals as goal

pub live_run-run-requires : goal.live_run-run-requires
live_run-run-requires c = record { live = rw c.deref.ensures.value (has_run_of_live c.self.inside c.args.self.now c.id.inside.index c.args.id c.self.view_is c.id.view_is c.requires.live) }

pub returns : goal.returns
returns c = record {
  list = rw (c.deref-2.ensures.value, take_rest)
      (list_of_run c.self.inside c.args.self.now c.id.inside.index c.args.id c.live_run-run.result c.self.view_is c.id.view_is (rw c.deref.ensures.value at c.live_run-run.ensures.run));
}
