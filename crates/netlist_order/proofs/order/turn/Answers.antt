use Rattle.std.proofs.Common.{◌≡◌, Some, None, ◌∙◌, arith}
use Rattle.netlist_order.specs.Graph.{driver_of, Reads}
use Rattle.netlist_order.specs.State.{next_of, table_at}
use Rattle.netlist_order.proofs.Leading.{place-within}
use Rattle.netlist_order.proofs.Turning.{IsSound-followed, work-followed, IsSound-passed, work-passed, driver-read, input-read, followed-read}
use Rattle.netlist_order.proofs.order.turn.Goals as goal
use Rattle.netlist_order.proofs.order.turn.Goals.{In-Some-Some, In-Some-None}

pub table-table-requires : goal.table-table-requires
table-table-requires c = place-within c.args.wiring.now c.args.search.now c.args.place c.requires.sound c.requires.at

driver-some : (c : In-Some-Some) → driver_of c.args.wiring.now (table_at c.args.search.now c.args.place) (next_of c.args.search.now (table_at c.args.search.now c.args.place)) ≡ Some c.in-Some-Some.driver
driver-some c =
    driver-read c.args.wiring.now c.args.search.now c.args.place c.table-table.result c.next.result c.table-table.ensures c.next.ensures
    c.in-Some-Some.field-0 c.in-Some-Some.ensures.driver
    ∙ c.in-Some-Some.field-0-is

driver-none : (c : In-Some-None) → driver_of c.args.wiring.now (table_at c.args.search.now c.args.place) (next_of c.args.search.now (table_at c.args.search.now c.args.place)) ≡ None
driver-none c =
    driver-read c.args.wiring.now c.args.search.now c.args.place c.table-table.result c.next.result c.table-table.ensures c.next.ensures
    c.in-Some-None.field-0 c.in-Some-None.ensures.driver
    ∙ c.in-Some-None.field-0-is

pub reach-requires : goal.reach-requires
reach-requires c =
    let reads : Reads c.args.wiring.now (table_at c.args.search.now c.args.place) c.in-Some-Some.driver =
    record { place = next_of c.args.search.now (table_at c.args.search.now c.args.place); drives = driver-some (goal.at.reach-requires c).In-Some-Some } in
    omega (arith, c.requires.graph (table_at c.args.search.now c.args.place) c.in-Some-Some.driver reads, c.requires.sound.open_tables.marks_size)

pub leave-requires-clause-followed : goal.leave-requires-clause-followed
leave-requires-clause-followed c =
    followed-read c.args.wiring.now c.args.search.now c.args.place c.table-table.result c.next.result c.table-table.ensures c.next.ensures c.in-None.ensures.driver

pub returns-in_ok-reach-in-Some-Some-clause-sound : goal.returns-in_ok-reach-in-Some-Some-clause-sound
returns-in_ok-reach-in-Some-Some-clause-sound c =
    let drives = driver-some (goal.at.returns-in_ok-reach-in-Some-Some-clause-sound c).In-Some-Some in
    rw (c.advance.ensures, c.table-table.ensures)
    (IsSound-followed c.args.wiring.now c.args.search.now c.args.place c.requires.sound c.requires.at c.requires.graph c.in-Some-Some.driver drives
    c.reach.new.self c.in_ok-reach-in-Some-Some.ensures)

pub returns-in_ok-reach-in-Some-Some-clause-nearer : goal.returns-in_ok-reach-in-Some-Some-clause-nearer
returns-in_ok-reach-in-Some-Some-clause-nearer c =
    let drives = driver-some (goal.at.returns-in_ok-reach-in-Some-Some-clause-nearer c).In-Some-Some in
    rw (c.advance.ensures, c.table-table.ensures)
    (work-followed c.args.wiring.now c.args.search.now c.args.place c.requires.sound c.requires.at c.requires.graph c.in-Some-Some.driver drives
    c.reach.new.self c.in_ok-reach-in-Some-Some.ensures)

pub returns-in-Some-None-clause-sound : goal.returns-in-Some-None-clause-sound
returns-in-Some-None-clause-sound c =
    let none = driver-none (goal.at.returns-in-Some-None-clause-sound c).In-Some-None in
    let less = input-read c.args.wiring.now c.args.search.now c.args.place c.table-table.result c.next.result c.table-table.ensures c.next.ensures
    c.in-Some-None.field-0 c.in-Some-None.ensures.driver in
    rw (c.advance-in-Some-None.ensures, c.table-table.ensures)
    (IsSound-passed c.args.wiring.now c.args.search.now c.args.place c.requires.sound c.requires.at none less)

pub returns-in-Some-None-clause-nearer : goal.returns-in-Some-None-clause-nearer
returns-in-Some-None-clause-nearer c =
    let none = driver-none (goal.at.returns-in-Some-None-clause-nearer c).In-Some-None in
    let less = input-read c.args.wiring.now c.args.search.now c.args.place c.table-table.result c.next.result c.table-table.ensures c.next.ensures
    c.in-Some-None.field-0 c.in-Some-None.ensures.driver in
    rw (c.advance-in-Some-None.ensures, c.table-table.ensures)
    (work-passed c.args.wiring.now c.args.search.now c.args.place c.requires.sound c.requires.at none less)
