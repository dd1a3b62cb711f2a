-- No signal that is written takes nodes away.
use Rattle.std.proofs.Common.{ℕ, ◌≤◌, ℤ, Bool, true, false, cond, List, [], ◌∷◌, map, Option, None, Some, fold, length, set, arith}
use Rattle.std.specs.Prelude.{nat_le}
use Rattle.netlist.specs.declared.latch.Init.{Init}
use Rattle.netlist.specs.declared.latch.Init.TheVariants as inits
use Rattle.netlist.specs.declared.latch.Latch.{Latch}
use Rattle.netlist.specs.declared.table.Table.{Table}
use Rattle.netlist.specs.Design.{Design}
use Rattle.netlist.specs.Sound.{table_at}
use Rattle.gates_nodes.specs.declared.cover.Cover.{Cover}
use Rattle.gates_nodes.specs.declared.node.Node.{Node}
use Rattle.gates_nodes.specs.declared.node.Node.TheVariants.{Free, Lut}
use Rattle.gates_nodes.specs.Folding.{Built, with_node}
use Rattle.gates_nodes.specs.Nodes.{cover_at, no, variables_of}
use Rattle.gates_nodes.specs.Tables.{cubes, some_row, tabled, told_by, unless_told}
use Rattle.gates_builder.proofs.Growing.{more-push, more-rows}
use Rattle.gates_frames.specs.Frames.{Cone, first_by, Frame, literal_at, literal_or, signed, table_of, with_input, with_latch, with_table, written}
use Rattle.gates_unroll.specs.declared.latches.Source.{Source}
use Rattle.gates_unroll.specs.declared.latches.Source.TheVariants.{First, Later}
use Rattle.gates_unroll.specs.Adding.{filled}
use Rattle.gates_unroll.specs.Sources.{latch_by}
use Rattle.gates_unroll.proofs.Folds.{Grows, more-fold}

module _ (given : ℕ) where
  pub more-written : (cone : Cone) (now : Frame) (signal : ℕ) (built : Built) → variables_of given now.nodes ≤ variables_of given built.nodes
      → variables_of given now.nodes ≤ variables_of given (written cone now signal built).nodes
  more-written cone now signal built more =
      elim (cone signal) as (λ t. variables_of given now.nodes ≤ variables_of given (cond t (record { nodes = built.nodes; literals = set now.literals signal built.output }) now).nodes) [
        | true ↦ more
        | false ↦ omega arith
      ]

  more-node : (nodes : List Node) (node : Node) → variables_of given nodes ≤ variables_of given (with_node given nodes node).nodes
  more-node nodes node = omega (arith, more-push given nodes node)

  pub inputs-grow : (cone : Cone) (number : ℕ) → Grows given (with_input given cone number)
  inputs-grow cone number now signal = more-written cone now signal (with_node given now.nodes (Free number signal)) (more-node now.nodes (Free number signal))

  pub more-first : (initial : Bool) (init : Init) (nodes : List Node) (output : ℕ) → variables_of given nodes ≤ variables_of given (first_by given initial init nodes output).nodes
  more-first true inits.Zero nodes output = omega arith
  more-first true inits.One nodes output = omega arith
  more-first true inits.Free nodes output = more-node nodes (Free 0 output)
  more-first false init nodes output = more-node nodes (Free 0 output)

  more-latch : (source : Source) (nodes : List Node) (latch : Latch) → variables_of given nodes ≤ variables_of given (latch_by source given nodes latch).nodes
  more-latch (First initial) nodes latch = more-first initial latch.init nodes latch.output
  more-latch (Later before) nodes latch = omega arith

  pub latches-grow : (cone : Cone) (source : Source) → Grows given (with_latch cone (latch_by source given))
  latches-grow cone source now latch = more-written cone now latch.output (latch_by source given now.nodes latch) (more-latch source now.nodes latch)

  more-told : (nodes : List Node) (node : Node) (told : Option ℤ) → variables_of given nodes ≤ variables_of given (unless_told given nodes node told).nodes
  more-told nodes node None = more-node nodes node
  more-told nodes node (Some literal) = omega arith

  more-signed : (value : Bool) (nodes : List Node) (built : Built) → variables_of given nodes ≤ variables_of given built.nodes → variables_of given nodes ≤ variables_of given (signed value built).nodes
  more-signed true nodes built more = more
  more-signed false nodes built more = more

  pub more-some_row : (nodes : List Node) (table : Table) (literals : List ℤ) → variables_of given nodes ≤ variables_of given (signed table.value (some_row given nodes table.rows literals)).nodes
  more-some_row nodes table literals = more-signed table.value nodes (some_row given nodes table.rows literals) (more-rows given (record { nodes = nodes; output = no given }) literals table.rows)

  pub more-table : (covers : List Cover) (nodes : List Node) (number : ℕ) (table : Table) (literals : List ℤ)
      → variables_of given nodes ≤ variables_of given (table_of covers given nodes number table literals).nodes
  more-table covers nodes number table literals =
      elim (nat_le (length table.inputs) 4)
      as (λ t. variables_of given nodes ≤ variables_of given (cond t
      (tabled covers given nodes number (literal_or given literals 0) (literal_or given literals 1) (literal_or given literals 2) (literal_or given literals 3))
      (signed table.value (some_row given nodes table.rows literals))).nodes) [
        | true ↦
            let four = literal_or given literals 0 ∷ literal_or given literals 1 ∷ literal_or given literals 2 ∷ literal_or given literals 3 ∷ [] in
            more-told nodes (Lut number (literal_or given literals 0) (literal_or given literals 1) (literal_or given literals 2) (literal_or given literals 3))
            (told_by given (cubes given (cover_at covers number).on four) (cubes given (cover_at covers number).off four))
        | false ↦ more-some_row nodes table literals
      ]

  pub tables-grow : (covers : List Cover) (tables : List Table) (cone : Cone) → Grows given (with_table covers given tables cone)
  tables-grow covers tables cone now number =
      let literals = map (literal_at given now.literals) (table_at tables number).inputs in
      more-written cone now (table_at tables number).output (table_of covers given now.nodes number (table_at tables number) literals)
      (more-table covers now.nodes number (table_at tables number) literals)

  -- the stages of a frame
  module _ (covers : List Cover) (design : Design) (order : List ℕ) (cone : Cone) (number : ℕ) (source : Source) (now : Frame) where
    pub latches-more : variables_of given (fold (with_latch cone (latch_by source given)) (fold (with_input given cone number) now design.inputs) design.latches).nodes
        ≤ variables_of given (filled covers given design order cone number (latch_by source given) now).nodes
    latches-more = more-fold given (with_table covers given design.tables cone) (tables-grow covers design.tables cone)
        (fold (with_latch cone (latch_by source given)) (fold (with_input given cone number) now design.inputs) design.latches) order

    pub inputs-more : variables_of given (fold (with_input given cone number) now design.inputs).nodes
        ≤ variables_of given (filled covers given design order cone number (latch_by source given) now).nodes
    inputs-more =
        let more = more-fold given (with_latch cone (latch_by source given)) (latches-grow cone source) (fold (with_input given cone number) now design.inputs) design.latches in
        omega (arith, more, latches-more)
