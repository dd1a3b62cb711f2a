use Rattle.std.proofs.Common.{◌≡◌, ◌++◌, map, drop}
use Rattle.netlist.specs.Valuations.{bit}
use Rattle.trace.proofs.vectors.add_letters.Given as goal
use Rattle.vcd_writer.specs.Lines.{digit}

abbrev pub invariant-loop-signal : goal.invariant-loop-signal
invariant-loop-signal l =
    l.text.items ++ map (λ signal. digit (bit l.values signal)) (drop l.signal-index l.signals) ≡ l.fn.text.items ++ map (λ signal. digit (bit l.values signal)) l.signals
