use Rattle.std.proofs.Common.{◌≡◌, ◌≤◌, ◌-◌, length, take}
use Rattle.psl_base.specs.Sink.{with_bytes}
use Rattle.psl_base.proofs.writing.put_all.Given as goal

abbrev pub invariant-loop-done : goal.invariant-loop-done
invariant-loop-done g l = record {
  within : l.done ≤ length l.bytes;
  written : (g.S.Sink.state l.sink).written ≡ with_bytes (take l.done l.bytes) (g.S.Sink.state l.initial.sink).written;
  faults : (g.S.Sink.state l.sink).faults ≡ (g.S.Sink.state l.initial.sink).faults;
}

abbrev pub decreases-loop-done : goal.decreases-loop-done
decreases-loop-done g l = length l.bytes - l.done
