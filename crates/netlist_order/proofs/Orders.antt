-- A topological order of the dependency graph is an order in which the tables can be computed.
use Rattle.std.proofs.Common.{◌≡◌, ℕ, ◌+◌, ◌<◌, List, [], ◌∷◌, length, map, get_or, take, Contains, Bor, Option, None, Some, refl, sym, ap, ◌∙◌, subst, ⊎_elim, arith}
use Rattle.std.proofs.Math.Path.{fun_ext}
use Rattle.std.proofs.lemmas.Bool.{cases_lt}
use Rattle.std.proofs.lemmas.List.{length-map, get_or-map, get_or_default, get_or-take, length-take-le}
use Rattle.std.proofs.lemmas.List.Elements.{All-from_get_or}
use Rattle.netlist_order.specs.Graph as graphs
use Rattle.netlist_order.specs.Graph.{Graph, driver_of, Reads, Occurs, OccursBefore}
use Rattle.netlist_order.specs.Wires.{drivers_of, graph_of}
use Rattle.netlist_order.proofs.Chains.{order-acyclic}
use Rattle.netlist.specs.declared.table.Table.{Table}
use Rattle.netlist.specs.Sound.{AreApart, IsOrder, no_table, table_at}
use Rattle.netlist_order.specs.TableGraph.{driver_in, table_graph, IsAcyclic}
use Rattle.netlist_order.proofs.Drivers.{first-at}

-- the graph by what drives each signal
pub same-graph : (tables : List Table) (drivers : List (Option ℕ)) → ((signal : ℕ) → get_or drivers signal None ≡ driver_in tables signal)
    → (some : List Table) → graph_of (map (λ table. table.inputs) some) drivers ≡ map (λ table. map (driver_in tables) table.inputs) some
same-graph tables drivers is some =
    let same : (λ signal. get_or drivers signal None) ≡ driver_in tables = fun_ext is in
    by-tables same some
  where
    by-tables : (λ signal. get_or drivers signal None) ≡ driver_in tables → (more : List Table)
        → graph_of (map (λ table. table.inputs) more) drivers ≡ map (λ table. map (driver_in tables) table.inputs) more
    by-tables same [] = refl
    by-tables same (table ∷ more) =
        let here : drivers_of drivers table.inputs ≡ map (driver_in tables) table.inputs = ap (λ (f : ℕ → Option ℕ). map f table.inputs) same in
        let rest = by-tables same more in
        cc

-- an order leaves no table that depends on itself
pub IsAcyclic-order : (graph : Graph) (order : List ℕ) → graphs.IsOrder graph order → IsAcyclic graph
IsAcyclic-order graph order found table chain = order-acyclic graph order found table chain

module _ (tables : List Table) (once : AreApart (map (λ table. table.output) tables)) where
  same-table : (t u : ℕ) → t < length tables → u < length tables → (table_at tables t).output ≡ (table_at tables u).output → t ≡ u
  same-table t u t_in u_in same =
      let size = length-map tables (λ table. table.output) in
      once t u (omega arith) (omega arith)
      (get_or-map (λ table. table.output) tables t no_table 0 t_in ∙ same ∙ sym (get_or-map (λ table. table.output) tables u no_table 0 u_in))

  driver-output : (table : ℕ) → table < length tables → driver_in tables (table_at tables table).output ≡ Some table
  driver-output table lt =
      first-at tables (table_at tables table).output 0 table lt refl
      (λ j below same. let is : j ≡ table = same-table j table (omega arith) lt same in omega arith)
      ∙ ap Some (let at : 0 + table ≡ table = omega arith in at)

  driver-input : (table k : ℕ) → table < length tables → k < length (table_at tables table).inputs
      → driver_of (table_graph tables) table k ≡ driver_in tables (get_or (table_at tables table).inputs k 0)
  driver-input table k lt within =
      ap (λ (inputs : List (Option ℕ)). get_or inputs k None) (get_or-map (λ t. map (driver_in tables) t.inputs) tables table no_table [] lt)
      ∙ get_or-map (driver_in tables) (table_at tables table).inputs k 0 None within

  pub IsOrder-from : (order : List ℕ) → graphs.IsOrder (table_graph tables) order → IsOrder tables order
  IsOrder-from order found =
      let size = length-map tables (λ t. map (driver_in tables) t.inputs) in
      record {
        within = All-from_get_or (λ table. table < length tables) order 0 (λ i lt. omega (arith, found.within i lt, size));
        each = λ table lt.
            let at = found.each table (omega (arith, size)) in
            (at.place, at.within, get_or_default order at.place table 0 at.within ∙ at.is);
        once = λ i j i_in j_in same.
            ⊎_elim (λ before. absurd (found.once i j before j_in same))
            (λ not_before. ⊎_elim (λ after. absurd (found.once j i after i_in (sym same))) (λ not_after. omega arith) (cases_lt j i))
            (cases_lt i j);
        after = λ place table place_in table_in there. before place table place_in table_in there;
      }
    where
      before : (place table : ℕ) → place < length order → table < length tables
          → Contains (table_at tables (get_or order place 0)).inputs (table_at tables table).output → Contains (take place order) table
      before place table place_in table_in there =
          let size = length-map tables (λ t. map (driver_in tables) t.inputs) in
          let reader = get_or order place 0 in
          let within : reader < length tables = omega (arith, found.within place place_in, size) in
          let signal : get_or (table_at tables reader).inputs there.0 0 ≡ (table_at tables table).output =
          get_or_default (table_at tables reader).inputs there.0 0 (table_at tables table).output there.1 ∙ there.2 in
          let drives : driver_of (table_graph tables) reader there.0 ≡ Some table =
          driver-input reader there.0 within there.1 ∙ ap (driver_in tables) signal ∙ driver-output table table_in in
          let reads : Reads (table_graph tables) reader table = record { place = there.0; drives = drives } in
          let at = found.after place table place_in reads in
          let front : at.place < length (take place order) = omega (arith, at.before, length-take-le place order (omega arith)) in
          (at.place, front, get_or-take place order at.place table at.before ∙ get_or_default order at.place table 0 (omega (arith, at.before)) ∙ at.is)

-- the graph that is searched is that of the tables
pub wiring-graph : (tables shown : List Table) (wiring : Graph) (lists listed : List (Bor (List ℕ))) (drivers drawn : List (Option ℕ))
    → shown ≡ tables → wiring ≡ graph_of (map (λ (list : Bor (List ℕ)). list.now) listed) drawn → listed ≡ lists → drawn ≡ drivers
    → map (λ (list : Bor (List ℕ)). list.now) lists ≡ map (λ table. table.inputs) shown
    → ((signal : ℕ) → get_or drivers signal None ≡ driver_in shown signal) → wiring ≡ table_graph tables
wiring-graph tables shown wiring lists listed drivers drawn shown_is wiring_is listed_is drawn_is lists_are first =
    wiring_is
    ∙ ap (λ (ls : List (Bor (List ℕ))). graph_of (map (λ (list : Bor (List ℕ)). list.now) ls) drawn) listed_is
    ∙ ap (λ ds. graph_of (map (λ (list : Bor (List ℕ)). list.now) lists) ds) drawn_is
    ∙ ap (λ ls. graph_of ls drivers) lists_are
    ∙ same-graph shown drivers first shown
    ∙ ap table_graph shown_is
