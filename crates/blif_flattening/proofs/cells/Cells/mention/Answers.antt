use Rattle.std.proofs.Common.{◌≡◌, ℕ, ◌^◌, ◌<◌, ◌≤◌, List, ◌++◌, ◌∷◌, [], length, set, Some, sym, ap, ◌∙◌, subst, arith}
use Rattle.std.proofs.lemmas.List.{length-map}
use Rattle.blif_flattening.specs.declared.cells.Cell.{Cell}
use Rattle.blif_flattening.specs.declared.model.Signal.{Signal}
use Rattle.blif_flattening.specs.Numbers.{onto, place_of}
use Rattle.blif_flattening.specs.Cells.{SignalTable, signals_of, signal_in, number_in, seen_of, table_of}
use Rattle.blif_flattening.proofs.Tables.{number_read, none_again, number-mentioned, seen-mentioned, IsTable-mentioned, owners-mentioned, seen-added, number-added, room-added}
use Rattle.blif_flattening.proofs.cells.Cells.mention.Goals as goal
use Rattle.blif_flattening.proofs.cells.Cells.mention.Goals.{In-Some}

within : (cells : List Cell) (order : List ℕ) (table : SignalTable) (cell : ℕ) → table_of cells order ≡ table → cell < length table.owners → cell < length cells
within cells order table cell is lt =
    omega (arith, length-map cells (λ (c : Cell). c.signal), ap (λ (t : SignalTable). length t.owners) is)

found : (c : In-Some) → number_in c.self.inside.cells.items c.args.cell ≡ Some c.in-Some.number
found c =
    number_read c.self.inside.cells.items c.args.cell c.index.result.now
    (within c.self.inside.cells.items c.self.inside.order.items c.args.self.now c.args.cell c.self.view_is c.requires.cell) c.index.ensures
    ∙ c.in-Some.is

pub returns-in-Some-clause-number : goal.returns-in-Some-clause-number
returns-in-Some-clause-number c =
    let lt = within c.self.inside.cells.items c.self.inside.order.items c.args.self.now c.args.cell c.self.view_is c.requires.cell in
    rw (← c.self.view_is) (number-mentioned c.self.inside.cells.items c.self.inside.order.items c.self.invariant c.args.cell c.in-Some.number lt (found c))

pub returns-in-Some-clause-seen : goal.returns-in-Some-clause-seen
returns-in-Some-clause-seen c =
    let lt = within c.self.inside.cells.items c.self.inside.order.items c.args.self.now c.args.cell c.self.view_is c.requires.cell in
    rw (← c.self.view_is) (seen-mentioned c.self.inside.cells.items c.self.inside.order.items c.self.invariant c.args.cell c.in-Some.number lt (found c))

pub invariant_of-self-2 : goal.invariant_of-self-2
invariant_of-self-2 c =
    let cells : List Cell = c.self.inside.cells.items in
    let order : List ℕ = c.self.inside.order.items in
    let lt = within cells order c.args.self.now c.args.cell c.self.view_is c.requires.cell in
    let none = none_again cells c.args.cell c.index.result.now c.index_mut.result.now lt c.index.ensures c.index_mut.ensures.value c.in_default.is in
    let count : c.len-number.result ≡ length order = omega (arith, c.len-number.ensures, c.self.inside.order.ok.0) in
    rw (c.in_ok-push.ensures.items, count)
    (IsTable-mentioned cells order c.self.invariant c.args.cell c.index_mut.result.now lt c.index_mut.ensures.value none)

pub returns-clause-owners : goal.returns-clause-owners
returns-clause-owners c =
    let cells : List Cell = c.self.inside.cells.items in
    let order : List ℕ = c.self.inside.order.items in
    let lt = within cells order c.args.self.now c.args.cell c.self.view_is c.requires.cell in
    let none = none_again cells c.args.cell c.index.result.now c.index_mut.result.now lt c.index.ensures c.index_mut.ensures.value c.in_default.is in
    let count : c.len-number.result ≡ length order = omega (arith, c.len-number.ensures, c.self.inside.order.ok.0) in
    rw count
    (owners-mentioned cells order c.self.invariant c.args.cell c.index_mut.result.now lt c.index_mut.ensures.value none
    ∙ ap (λ (t : SignalTable). t.owners) c.self.view_is)

pub returns-clause-seen : goal.returns-clause-seen
returns-clause-seen c =
    let cells : List Cell = c.self.inside.cells.items in
    let order : List ℕ = c.self.inside.order.items in
    let lt = within cells order c.args.self.now c.args.cell c.self.view_is c.requires.cell in
    let none = none_again cells c.args.cell c.index.result.now c.index_mut.result.now lt c.index.ensures c.index_mut.ensures.value c.in_default.is in
    let count : c.len-number.result ≡ length order = omega (arith, c.len-number.ensures, c.self.inside.order.ok.0) in
    rw (c.in_ok-push.ensures.items, count)
    (seen-added cells order c.self.invariant c.args.cell c.index_mut.result.now lt c.index_mut.ensures.value none
    ∙ ap (λ (t : SignalTable). onto t.seen (signal_in t.owners c.args.cell ∷ [])) c.self.view_is)

pub returns-clause-number : goal.returns-clause-number
returns-clause-number c =
    let cells : List Cell = c.self.inside.cells.items in
    let order : List ℕ = c.self.inside.order.items in
    let lt = within cells order c.args.self.now c.args.cell c.self.view_is c.requires.cell in
    let none = none_again cells c.args.cell c.index.result.now c.index_mut.result.now lt c.index.ensures c.index_mut.ensures.value c.in_default.is in
    let count : c.len-number.result ≡ length order = omega (arith, c.len-number.ensures, c.self.inside.order.ok.0) in
    let after : List Signal =
    seen_of (set cells c.args.cell (record { signal = c.index_mut.result.now.signal; number = Some (length order) })) (order ++ c.args.cell ∷ []) in
    rw (c.in_ok-push.ensures.items, count)
    (number-added cells order c.self.invariant c.args.cell c.index_mut.result.now lt c.index_mut.ensures.value none
    ∙ ap (λ (t : SignalTable). place_of after (signal_in t.owners c.args.cell)) c.self.view_is)

pub overflow_cast-number : goal.overflow_cast-number
overflow_cast-number c =
    let cells : List Cell = c.self.inside.cells.items in
    let order : List ℕ = c.self.inside.order.items in
    let lt = within cells order c.args.self.now c.args.cell c.self.view_is c.requires.cell in
    let room = room-added cells order c.self.invariant c.args.cell c.index.result.now lt c.index.ensures c.in_default.is in
    let fits : length (onto (seen_of cells order) (signal_in (signals_of cells) c.args.cell ∷ [])) ≤ 2 ^ 32 =
    subst (λ (t : SignalTable). length (onto t.seen (signal_in t.owners c.args.cell ∷ [])) ≤ 2 ^ 32) (sym c.self.view_is) c.requires.room in
    omega (arith, room, fits, c.len-number.ensures, c.self.inside.order.ok.0)
