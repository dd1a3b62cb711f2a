use Rattle.std.proofs.Common.{sym, subst, IsTrue}
use Rattle.word_pool.proofs.Sound.{live_is_run}
use Rattle.word_pool.proofs.region.Pool.is_live.Goals as goal

pub returns : goal.returns
returns c =
    let same = live_is_run c.self.inside c.args.self.now c.id.inside.index c.args.id c.self.view_is c.id.view_is in
    record {
      live = (
        λ yes. subst IsTrue (sym same) (rw c.deref.ensures.value at (c.has_run.ensures.0 yes)),
        λ live. c.has_run.ensures.1 (rw c.deref.ensures.value (subst IsTrue same live)),
      );
    }
