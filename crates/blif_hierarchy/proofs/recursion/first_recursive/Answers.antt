use Rattle.std.proofs.Common.{rules, ◌≡◌, ◌<◌, ℕ, List, ◌∙◌, ap, sym, subst, length, map, All, IfSome, arith, Bor}
use Rattle.std.proofs.lemmas.List.{length-map}
use Rattle.netlist_order.specs.Graph.{Graph, IsOrder, IsFirstOnCycle}
use Rattle.blif_hierarchy.specs.Order.{model_graph}
use Rattle.blif_hierarchy.proofs.Back.{none-recursive, first-recursive, code-graph, itself-within}
use Rattle.blif_hierarchy.proofs.recursion.first_recursive.Goals as goal

pub returns-in_default : goal.returns-in_default
returns-in_default g c =
    let made = code-graph g.row.L.Denot c.args.models.now c.requires.closed c.in_ok-placed.placed.items (map (λ (list : Bor (List ℕ)). list.now) c.in_ok-lists.lists.items)
    c.in_ok-drivers.drivers.items c.len.result c.in_ok-placed.ensures (c.in_ok-lists.ensures ∙ c.deref.ensures.value) (search rules) c.in_ok-drivers.ensures in
    let graph : c.new-wiring.result ≡ model_graph c.args.models.now =
    c.new-wiring.ensures.graph ∙ rw (c.as_slice.ensures.value, c.as_slice-2.ensures.value) made.1 in
    none-recursive g.row.L.Denot c.args.models.now c.in_default.field-0.items
    (subst (λ (gr : Graph). IsOrder gr c.in_default.field-0.items) graph (rw c.in_default.is at c.in_ok-model.ensures.order))

pub first_back-requires-clause-tables : goal.first_back-requires-clause-tables
first_back-requires-clause-tables g c =
    let now : List (List ℕ) = map (λ (list : Bor (List ℕ)). list.now) c.in_ok-lists.lists.items in
    let count : c.len.result ≡ length c.in_ok-placed.placed.items = search rules in
    let one : length now ≡ length c.in_ok-placed.placed.items = ap (λ (xs : List (List ℕ)). length xs) (c.in_ok-lists.ensures ∙ c.deref.ensures.value) in
    let other = length-map c.in_ok-lists.lists.items (λ (list : Bor (List ℕ)). list.now) in
    let size : c.len.result ≡ length c.in_ok-lists.lists.items = omega (arith, count, one, other) in
    subst (λ xs. All (λ driver. IfSome driver (λ table. table < length c.in_ok-lists.lists.items)) xs) (sym c.deref-2.ensures.value)
    (subst (λ n. All (λ driver. IfSome driver (λ table. table < n)) c.in_ok-drivers.drivers.items) size
    (itself-within c.in_ok-drivers.drivers.items c.len.result c.in_ok-drivers.ensures))

pub returns : goal.returns
returns g c =
    let made = code-graph g.row.L.Denot c.args.models.now c.requires.closed c.in_ok-placed.placed.items (map (λ (list : Bor (List ℕ)). list.now) c.in_ok-lists.lists.items)
    c.in_ok-drivers.drivers.items c.len.result c.in_ok-placed.ensures (c.in_ok-lists.ensures ∙ c.deref.ensures.value) (search rules) c.in_ok-drivers.ensures in
    let graph : c.new-wiring.result ≡ model_graph c.args.models.now =
    c.new-wiring.ensures.graph ∙ rw (c.as_slice.ensures.value, c.as_slice-2.ensures.value) made.1 in
    first-recursive g.row.L.Denot c.args.models.now c.in_ok-drivers.drivers.items (map (λ (list : Bor (List ℕ)). list.now) c.in_ok-lists.lists.items) made.0 made.1
    c.in-Err.model c.in_ok-placement.placement
    (subst (λ (gr : Graph). IsFirstOnCycle gr c.in-Err.model) graph (rw c.in-Err.is at c.in_ok-model.ensures.cycle))
    (rw c.deref-2.ensures.value at c.in_ok-placement.ensures)
