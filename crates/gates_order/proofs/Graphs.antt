-- What is asked of tables to find an order of them.
use Rattle.std.proofs.Common.{◌≡◌, ℕ, ◌<◌, ◌≤◌, List, [], length, map, get_or, Option, None, Some, sym, ap, ◌∙◌, arith}
use Rattle.std.proofs.lemmas.List.{get_or-map, get_or_default, length-map}
use Rattle.std.proofs.lemmas.List.Elements.{All-map, Contains-get_or}
use Rattle.netlist.specs.declared.table.Table.{Table}
use Rattle.netlist.specs.Design.{Design}
use Rattle.netlist.specs.Sound.{IsOrder, IsSound, no_table, table_at}
use Rattle.netlist.proofs.Driving.{outputs-within}
use Rattle.netlist_order.specs.Graph as graphs
use Rattle.netlist_order.specs.Graph.{Depends, Reads, driver_of}
use Rattle.netlist_order.specs.TableGraph.{driver_in, table_graph}
use Rattle.netlist_order.proofs.Chains.{input-within, order-acyclic, table-within}
use Rattle.gates_order.proofs.Places.{apart-outputs, driver-before, few-apart}

-- there are no more tables than signals
pub few-tables : (design : Design) → IsSound design → length design.tables ≤ design.signals
few-tables design sound =
    let few = few-apart (map (λ table. table.output) design.tables) design.signals (apart-outputs design sound)
    (All-map (λ signal. signal < design.signals) (λ table. table.output) design.tables (outputs-within design sound)) in
    omega (arith, few, length-map design.tables (λ table. table.output))

module _ (tables : List Table) (order : List ℕ) (ordered : IsOrder tables order) where
  size : length (table_graph tables) ≡ length tables
  size = length-map tables (λ table. map (driver_in tables) table.inputs)

  -- what drives an input
  drives : (table place driver : ℕ) → driver_of (table_graph tables) table place ≡ Some driver
      → (place < length (table_at tables table).inputs) × (driver_in tables (get_or (table_at tables table).inputs place 0) ≡ Some driver)
  drives table place driver is =
      let table_in = table-within (table_graph tables) table place driver is in
      let lt : table < length tables = omega (arith, size) in
      let row : get_or (table_graph tables) table [] ≡ map (driver_in tables) (table_at tables table).inputs = get_or-map (λ t. map (driver_in tables) t.inputs) tables table no_table [] lt in
      let input_in = input-within (table_graph tables) table place driver is in
      let inside : place < length (table_at tables table).inputs =
      omega (arith, input_in, ap (λ (inputs : List (Option ℕ)). length inputs) row, length-map (table_at tables table).inputs (driver_in tables)) in
      (inside, sym (get_or-map (driver_in tables) (table_at tables table).inputs place 0 None inside) ∙ sym (ap (λ (inputs : List (Option ℕ)). get_or inputs place None) row) ∙ is)

  graph-order : graphs.IsOrder (table_graph tables) order
  graph-order = record {
    each = λ table lt.
        let at = ordered.each table (omega (arith, size)) in
        record { place = at.0; within = at.1; is = get_or_default order at.0 0 table at.1 ∙ at.2 };
    within = λ i lt. omega (arith, ordered.within i 0 lt, size);
    once = λ i j below lt same. (let e = ordered.once i j (omega arith) lt same in omega arith);
    after = λ i driver lt reads.
        let found = drives (get_or order i 0) reads.place driver reads.drives in
        let inputs = (table_at tables (get_or order i 0)).inputs in
        let at = driver-before tables order ordered i (get_or inputs reads.place 0) driver lt (Contains-get_or inputs reads.place 0 found.0) found.1 in
        record { place = at.earlier; before = at.before; is = at.is };
  }

  pub no-cycle : (table : ℕ) → Depends (table_graph tables) table table → ⊥
  no-cycle table chain = order-acyclic (table_graph tables) order graph-order table chain
