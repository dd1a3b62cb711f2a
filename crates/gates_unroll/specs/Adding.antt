-- Frames behind nodes in the making.
use Rattle.std.specs.Prelude.{◌≡◌, ℕ, ◌<◌, ◌≤◌, ℤ, List, fold, Result, IfOk, IfErr, OnOk}
use Rattle.clauses.specs.declared.flat.CnfFault.{CnfFault}
use Rattle.clauses.specs.declared.flat.TheConstants.{MOST_VARIABLES}
use Rattle.netlist.specs.declared.latch.Latch.{Latch}
use Rattle.netlist.specs.Design.{Design}
use Rattle.gates_nodes.specs.declared.cover.Cover.{Cover}
use Rattle.gates_nodes.specs.declared.node.Node.{Node}
use Rattle.gates_nodes.specs.Folding.{Built}
use Rattle.gates_nodes.specs.Nodes.{variables_of}
use Rattle.gates_builder.specs.Adding.{AreOf, Making, with_nodes}
use Rattle.gates_frames.specs.Frames.{Cone, Frame, with_input, with_latch, with_table}

-- the nodes that there are, and the literals of signals
abbrev pub frame_of : Making → List ℤ → Frame
frame_of making literals = record { nodes = making.nodes; literals = literals }

-- the inputs, latches and tables of a frame behind what there is
abbrev pub filled : List Cover → ℕ → Design → List ℕ → Cone → ℕ → (List Node → Latch → Built) → Frame → Frame
filled covers given design order cone number make now =
    fold (with_table covers given design.tables cone)
    (fold (with_latch cone make) (fold (with_input given cone number) now design.inputs) design.latches) order

-- The nodes of a frame were added, and the result has its literals, which are of the variables that there are then; or
-- there would be too many variables. No variable is taken away, so literals of the variables before are such ones still.
pub record AddsFrame (old new : Making) (frame : Frame) (result : Result (List ℤ) CnfFault) : Type 0 where
  pub making : OnOk result (new ≡ with_nodes old frame.nodes)
  pub literals : IfOk result (λ literals. literals ≡ frame.literals)
  pub are : IfOk result (AreOf new)
  pub more : OnOk result (variables_of old.given old.nodes ≤ variables_of new.given new.nodes)
  pub large : IfErr result (λ fault. fault ≡ CnfFault.TooLarge → MOST_VARIABLES < variables_of old.given frame.nodes)

-- Nodes were added and literals of signals written, so that they are those of a frame; or there would be too many variables.
pub record Writes (old new : Making) (after : List ℤ) (frame : Frame) (result : Result (Unit {0}) CnfFault) : Type 0 where
  pub making : OnOk result (new ≡ with_nodes old frame.nodes)
  pub literals : OnOk result (after ≡ frame.literals)
  pub are : OnOk result (AreOf new after)
  pub more : OnOk result (variables_of old.given old.nodes ≤ variables_of new.given new.nodes)
  pub large : IfErr result (λ fault. fault ≡ CnfFault.TooLarge → MOST_VARIABLES < variables_of old.given frame.nodes)
