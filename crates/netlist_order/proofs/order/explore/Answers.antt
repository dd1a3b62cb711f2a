use Rattle.std.proofs.Common.{sym, ◌∙◌}
use Rattle.netlist_order.proofs.Ending.{IsSound-begun, KeepsMet-begun, met-begun, no_path}
use Rattle.netlist_order.proofs.Turning.{IsLast-last}
use Rattle.netlist_order.proofs.order.explore.Goals as goal

pub loop-place-init : goal.loop-place-init
loop-place-init c =
    let graph = c.args.wiring.now in
    let new = sym c.mark.ensures ∙ c.in-New.is in
    rw c.in_ok-enter.ensures record {
      sound = IsSound-begun graph c.args.search.now c.requires.sound c.requires.ended c.args.table new c.requires.table;
      kept = KeepsMet-begun graph c.args.search.now c.requires.sound c.requires.ended c.args.table new c.requires.table;
      met = met-begun graph c.args.search.now c.requires.sound c.requires.ended c.args.table new c.requires.table;
    }

pub turn-requires-clause-at : goal.turn-requires-clause-at
turn-requires-clause-at c = IsLast-last c.loop-place.search.path c.in-Some.place (sym c.in-Some.ensures)

pub returns-clause-ended : goal.returns-clause-ended
returns-clause-ended c = no_path c.loop-place.search.path (sym c.in_default-place.ensures)
