use Rattle.std.proofs.Common.{◌≡◌, take, not}
use Rattle.std.specs.List.{filter}
use Rattle.std.specs.Ordering.{int_eq}
use Rattle.reach_frames.proofs.leaving_out.all_but.Given as goal

abbrev pub invariant-loop-other : goal.invariant-loop-other
invariant-loop-other l = l.rest ≡ filter (λ other. not (int_eq other l.literal)) (take l.other-index l.literals)
