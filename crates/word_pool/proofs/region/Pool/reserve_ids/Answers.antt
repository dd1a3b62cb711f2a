use Rattle.std.proofs.Common.{arith, ap, subst, refl}
use Rattle.word_pool.specs.Region.{Region, IsBounded}
use Rattle.word_pool.proofs.Sound.{bounded}
use Rattle.word_pool.proofs.region.Pool.reserve_ids.Goals as goal

pub loop-init : goal.loop-init
loop-init c = record {
  lists = refl;
  spare_words = refl;
  spare_ids = omega (arith, c.len-counter.ensures, ap (λ (r : Region). r.spare_ids) c.self.view_is);
  free_words = refl;
  bounded = subst IsBounded c.self.view_is (bounded c.self.inside c.self.invariant);
}
