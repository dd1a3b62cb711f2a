use Rattle.std.proofs.Common.{◌≡◌, ◌<◌, ◌-◌, ◌+◌, length, IfSome, None, Some, ◌∙◌, arith, length-set}
use Rattle.std.proofs.lemmas.List.{length-replicate}
use Rattle.std.proofs.lemmas.List.Elements.{All-replicate, All-set}
use Rattle.netlist_order.proofs.Drivers.{drivers-next, drivers-none, driver-of-none}
use Rattle.netlist_order.proofs.tables.drivers_of.Goals as goal

pub loop-left-init : goal.loop-left-init
loop-left-init c = rw c.in_ok-drivers.ensures record {
  few = omega arith;
  sized = length-replicate c.args.signals None;
  first = drivers-none c.args.tables.now _ (driver-of-none c.args.signals);
  within = All-replicate (λ driver. IfSome driver (λ table. table < length c.args.tables.now)) c.args.signals None tt;
}

pub loop-left-preserved : goal.loop-left-preserved
loop-left-preserved c =
    let left = c.loop-left.left - 1 in
    let next : c.loop-left.left ≡ left + 1 = omega arith in
    record {
      few = omega arith;
      sized = length-set _ _ _ ∙ c.loop-left.invariant.sized;
      first = drivers-next c.args.tables.now c.loop-left.drivers.items left c.loop-left.left c.index-tables-left.result next (omega arith)
          (omega (arith, c.requires.outputs left c.index-tables-left.result (omega arith), c.loop-left.invariant.sized)) c.loop-left.invariant.first;
      within = All-set (λ driver. IfSome driver (λ table. table < length c.args.tables.now)) c.loop-left.drivers.items _ (Some left) (omega arith) c.loop-left.invariant.within;
    }

pub returns-clause-first : goal.returns-clause-first
returns-clause-first c =
    let none : c.loop-left.left ≡ 0 = omega arith in
    λ signal. rw none at (c.loop-left.invariant.first signal)
