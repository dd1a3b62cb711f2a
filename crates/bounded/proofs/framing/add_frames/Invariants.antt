use Rattle.netlist.specs.Valuations.{bit}
use Rattle.bounded.proofs.FramesBuilt.{FramesSoFar, at}
use Rattle.bounded.proofs.framing.add_frames.Given as goal

abbrev pub invariant-loop-earlier : goal.invariant-loop-earlier
invariant-loop-earlier l = FramesSoFar (at l.netlist l.order (bit l.cone) l.fn.builder) l.fn.builder l.builder l.frames l.earlier l.netlist.signals
