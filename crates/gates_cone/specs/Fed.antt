-- The least closed cone as a function: some signals, and what feeds them through as many tables and latches as there
-- are signals. No more are needed, since each step before one that finds nothing finds a signal.
use Rattle.std.specs.Prelude.{ℕ, zero, suc, ◌==◌, ◌&&◌, ◌||◌, Bool as Truth, List}
use Rattle.std.specs.List.{list_any}
use Rattle.netlist.specs.Design.{Design}
use Rattle.gates_frames.specs.Frames.{Cone}

-- whether a table or a latch whose output is in a cone reads a signal
abbrev pub is_read : Design → Cone → ℕ → Truth
is_read design cone signal =
    list_any (λ table. cone table.output && list_any (λ input. input == signal) table.inputs) design.tables
    || list_any (λ latch. cone latch.output && (latch.input == signal)) design.latches

-- some signals, and what feeds them through so many tables and latches at most
abbrev pub fed : Design → List ℕ → ℕ → Cone
fed design signals zero signal = list_any (λ other. other == signal) signals
fed design signals (suc steps) signal =
    fed design signals steps signal || is_read design (fed design signals steps) signal

abbrev pub cone_in : Design → List ℕ → Cone
cone_in design signals = fed design signals design.signals
