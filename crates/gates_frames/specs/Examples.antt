-- A worked example: a latch that takes the negation of its own output. The signal 0 is the latch's output, and 1 is what a
-- table with the one row `0 1` says of it.
use Rattle.std.specs.Prelude.{ℕ, Bool as Truth, true, List, [], ◌∷◌}
use Rattle.netlist.specs.declared.latch.Init.TheVariants as inits
use Rattle.netlist.specs.declared.rows.Mark.TheVariants as marks
use Rattle.netlist.specs.Design.{Design}
use Rattle.gates_nodes.specs.declared.cover.Cover.{Cover}
use Rattle.gates_frames.specs.Frames.{Cone}

abbrev pub toggle : Design
toggle = record {
  signals = 2;
  inputs = [];
  latches = record { input = 1; output = 0; init = inits.Zero } ∷ [];
  tables = record { inputs = 0 ∷ []; output = 1; rows = (marks.Zero ∷ []) ∷ []; value = true } ∷ [];
  names = [];
}

abbrev pub toggle_covers : List Cover
toggle_covers = record { on = (marks.Zero ∷ []) ∷ []; off = (marks.One ∷ []) ∷ [] } ∷ []

abbrev pub whole : Cone
whole signal = true
