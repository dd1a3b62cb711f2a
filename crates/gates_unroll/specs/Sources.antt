-- What latches are: in a first frame, and in one that follows another.
use Rattle.std.specs.Prelude.{ℕ, ◌<◌, List, length}
use Rattle.netlist.specs.declared.latch.Latch.{Latch}
use Rattle.gates_nodes.specs.declared.node.Node.{Node}
use Rattle.gates_nodes.specs.Folding.{Built}
use Rattle.gates_builder.specs.Adding.{AreOf, Making}
use Rattle.gates_frames.specs.Frames.{first_latch, moved_latch}
use Rattle.gates_unroll.specs.declared.latches.Source.{Source}
use Rattle.gates_unroll.specs.declared.latches.Source.TheVariants.{First, Later}

-- the literal of a latch
abbrev pub latch_by : Source → ℕ → List Node → Latch → Built
latch_by (First initial) given nodes latch = first_latch given initial nodes latch
latch_by (Later before) given nodes latch = moved_latch given before.now nodes latch

-- a frame before has a literal of a signal, and its literals are of the variables that there are
abbrev pub Tells : Making → Source → ℕ → Type 0
Tells making (First initial) signal = Unit {0}
Tells making (Later before) signal = (signal < length before.now) × AreOf making before.now
