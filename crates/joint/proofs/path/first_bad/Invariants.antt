use Rattle.std.proofs.Common.{◌≡◌, ◌-◌}
use Rattle.joint.specs.Slices.{first_true}
use Rattle.joint.proofs.path.first_bad.Given as goal

abbrev pub invariant-loop-position : goal.invariant-loop-position
invariant-loop-position l =
    first_true l.values l.size l.place l.window 0 ≡ first_true l.values l.size l.place (l.window - l.position) l.position
