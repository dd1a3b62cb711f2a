-- Names by which the signals of a netlist are found in a trace of its runs.
use Rattle.std.specs.Prelude.{◌≡◌, ℕ, ◌<◌}
use Rattle.netlist.specs.Design.{Design}
use Rattle.trace.specs.Printed.{printed}
use Rattle.trace.specs.Trace.{first_text}

-- the first names of the signals are different, and a trace declares them as they stand
pub record HasPlainNames (design : Design) : Type 0 where
  pub same : (signal : ℕ) → signal < design.signals → printed (first_text design.names signal) ≡ first_text design.names signal
  pub apart : (one other : ℕ) → one < design.signals → other < design.signals
      → first_text design.names one ≡ first_text design.names other → one ≡ other
