use Rattle.std.proofs.Common.{arith, ap, subst}
use Rattle.word_pool.specs.Region.{Region, used_words, total_length, IsBounded}
use Rattle.word_pool.proofs.Sound.{bounded, used_is}
use Rattle.word_pool.proofs.region.Pool.reserve_words.Goals as goal
use Rattle.word_pool.proofs.region.Pool.reserve_words.Goals.{then-len-count, else-len-count}

pub returns-then-count-self-clause-bounded : goal.returns-then-count-self-clause-bounded
returns-then-count-self-clause-bounded c = subst IsBounded c.self.view_is (bounded c.self.inside c.self.invariant)

pub grow-requires : goal.grow-requires
grow-requires c = elim c.if-len-count.branch [
  | then-len-count w ↦ record { words = rw w.self-is (omega (arith, c.requires.words, ap total_length w.compact.ensures.lists, w.compact.ensures.free_words, w.compact.ensures.spare_words)) }
  | else-len-count w ↦ record {
    words = rw w.self-is (omega (
      arith,
      used_is c.self.inside c.self.invariant,
      ap used_words c.self.view_is,
      ap (λ (r : Region). r.free_words) c.self.view_is,
      ap (λ (r : Region). r.spare_words) c.self.view_is,
      c.self.invariant.used_in_region,
      c.self.invariant.region_in_room,
    ));
  }
]
