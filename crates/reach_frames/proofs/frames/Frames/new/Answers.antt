use Rattle.std.proofs.Common.{◌≡◌, None, refl, ap, ◌∙◌}
use Rattle.std.specs.FinMap.{get, get-empty}
use Rattle.std.specs.Ordering.{nat_cmp}
use Rattle.word_pool.specs.Region.{list_of}
use Rattle.reach_frames.proofs.frames.Frames.new.Goals as goal

pub invariant_of-result : goal.invariant_of-result
invariant_of-result c = λ id.
    let none : list_of c.new.result id ≡ None = ap (λ lists. get lists id) c.new.ensures.lists ∙ get-empty nat_cmp id in
    rw (c.new-2.ensures.items, none) refl
