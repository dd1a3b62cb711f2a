-- Frames of a netlist: a literal for each signal at each moment, as nodes that are built one frame behind another. A latch
-- is the literal that its input has in the frame before, so no node stands for it; only the signals of a cone are built.
use Rattle.std.specs.Prelude.{◌≡◌, ℕ, zero, suc, ◌<◌, ℤ, neg_ℤ, Bool as Truth, true, false, cond, nat_le, List, map, fold, length, replicate, slice_index_or, slice_set, All, IsTrue}
use Rattle.netlist.specs.declared.latch.Init.{Init}
use Rattle.netlist.specs.declared.latch.Init.TheVariants as inits
use Rattle.netlist.specs.declared.latch.Latch.{Latch}
use Rattle.netlist.specs.declared.table.Table.{Table}
use Rattle.netlist.specs.Design.{Design}
use Rattle.netlist.specs.Sound.{table_at}
use Rattle.gates_nodes.specs.declared.cover.Cover.{Cover}
use Rattle.gates_nodes.specs.declared.node.Node.{Node}
use Rattle.gates_nodes.specs.declared.node.Node.TheVariants.{Free}
use Rattle.gates_nodes.specs.Folding.{Built, with_node}
use Rattle.gates_nodes.specs.Nodes.{IsExact, cover_at, no, yes}
use Rattle.gates_nodes.specs.Tables.{some_row, tabled}

-- some of the signals
abbrev pub Cone : Type 0
Cone = ℕ → Truth

-- with the output of a table its inputs are in the cone, and with that of a latch its input
pub record IsClosed (design : Design) (cone : Cone) : Type 0 where
  pub tables : All (λ table. IsTrue (cone table.output) → All (λ signal. IsTrue (cone signal)) table.inputs) design.tables
  pub latches : All (λ latch. IsTrue (cone latch.output) → IsTrue (cone latch.input)) design.latches

-- the rows of a table are one side of a cover, and just one side of the cover fits each vector of values
pub record IsCover (table : Table) (cover : Cover) : Type 0 where
  pub exact : IsExact cover
  pub rows : cond table.value cover.on cover.off ≡ table.rows

-- The covers of tables, each by the number of its table. Those of tables with more than four inputs are not used.
pub record AreCovers (tables : List Table) (covers : List Cover) : Type 0 where
  pub each : (number : ℕ) → IsExact (cover_at covers number)
  pub are : (number : ℕ) → number < length tables → IsTrue (nat_le (length (table_at tables number).inputs) 4)
      → IsCover (table_at tables number) (cover_at covers number)

-- nodes, and the literal of each signal; that of a signal outside the cone is false
pub record Frame : Type 0 where
  pub nodes : List Node
  pub literals : List ℤ

abbrev pub literal_at : ℕ → List ℤ → ℕ → ℤ
literal_at given literals signal = slice_index_or literals signal (no given)

-- a signal has a literal, where it is in the cone
abbrev pub written : Cone → Frame → ℕ → Built → Frame
written cone now signal built =
    cond (cone signal) (record { nodes = built.nodes; literals = slice_set now.literals signal built.output }) now

-- an input is free
abbrev pub with_input : ℕ → Cone → ℕ → Frame → ℕ → Frame
with_input given cone number now signal = written cone now signal (with_node given now.nodes (Free number signal))

-- a latch is free, or has its first value where the path is to be initial
abbrev pub first_by : ℕ → Truth → Init → List Node → ℕ → Built
first_by given true inits.Zero nodes output = record { nodes = nodes; output = no given }
first_by given true inits.One nodes output = record { nodes = nodes; output = yes given }
first_by given true inits.Free nodes output = with_node given nodes (Free 0 output)
first_by given false init nodes output = with_node given nodes (Free 0 output)

abbrev pub first_latch : ℕ → Truth → List Node → Latch → Built
first_latch given initial nodes latch = first_by given initial latch.init nodes latch.output

-- later it is the literal of its input before
abbrev pub moved_latch : ℕ → List ℤ → List Node → Latch → Built
moved_latch given before nodes latch = record { nodes = nodes; output = literal_at given before latch.input }

abbrev pub with_latch : Cone → (List Node → Latch → Built) → Frame → Latch → Frame
with_latch cone make now latch = written cone now latch.output (make now.nodes latch)

-- a table of literals: one node where they are at most four, and else conjunctions
abbrev pub signed : Truth → Built → Built
signed true built = built
signed false built = record { nodes = built.nodes; output = neg_ℤ built.output }

abbrev pub literal_or : ℕ → List ℤ → ℕ → ℤ
literal_or given literals place = slice_index_or literals place (yes given)

abbrev pub table_of : List Cover → ℕ → List Node → ℕ → Table → List ℤ → Built
table_of covers given nodes number table literals =
    cond (nat_le (length table.inputs) 4)
    (tabled covers given nodes number (literal_or given literals 0) (literal_or given literals 1)
    (literal_or given literals 2) (literal_or given literals 3))
    (signed table.value (some_row given nodes table.rows literals))

abbrev pub with_table : List Cover → ℕ → List Table → Cone → Frame → ℕ → Frame
with_table covers given tables cone now number =
    written cone now (table_at tables number).output
    (table_of covers given now.nodes number (table_at tables number)
    (map (literal_at given now.literals) (table_at tables number).inputs))

-- a frame behind nodes: its inputs, its latches, and its tables in an order in which they can be computed
abbrev pub blank : ℕ → Design → List Node → Frame
blank given design nodes = record { nodes = nodes; literals = replicate design.signals (no given) }

abbrev pub frame_by : List Cover → ℕ → Design → List ℕ → Cone → ℕ → (List Node → Latch → Built) → List Node → Frame
frame_by covers given design order cone number make nodes =
    fold (with_table covers given design.tables cone)
    (fold (with_latch cone make) (fold (with_input given cone number) (blank given design nodes) design.inputs) design.latches)
    order

-- the frame of each number, behind those before it; the first one is that of an initial valuation, or of any
abbrev pub frame_at : List Cover → ℕ → Design → List ℕ → Cone → Truth → List Node → ℕ → Frame
frame_at covers given design order cone initial nodes zero =
    frame_by covers given design order cone 0 (first_latch given initial) nodes
frame_at covers given design order cone initial nodes (suc number) =
    frame_by covers given design order cone (suc number)
    (moved_latch given (frame_at covers given design order cone initial nodes number).literals)
    (frame_at covers given design order cone initial nodes number).nodes
