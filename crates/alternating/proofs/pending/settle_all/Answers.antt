use Rattle.std.proofs.Common.{sym, ap, ◌∙◌, List, ◌++◌, arith}
use Rattle.std.specs.Vec.Iter.{into_iter_items}
use Rattle.alternating.specs.Pending.{pendings_of}
use Rattle.alternating.specs.Views.{obligations_of_code}
use Rattle.alternating.specs.declared.pending.Pending.{Pending}
use Rattle.alternating.proofs.Settled.{settled-more, settled-all}
use Rattle.alternating.proofs.pending.settle_all.Goals as goal

pub loop-pending-preserved : goal.loop-pending-preserved
loop-pending-preserved c =
    settled-more c.loop-pending.settled.items c.push.new.self.items c.in_ok-settled.field-0 c.in-Some.pending (into_iter_items c.next.new.self) (pendings_of c.args.pendings.items)
    (ap (λ (l : List Pending). obligations_of_code c.loop-pending.settled.items ++ pendings_of l) (sym c.in-Some.ensures.items) ∙ c.loop-pending.invariant) c.in_ok-push.ensures.items c.in_ok-settled.ensures

pub returns : goal.returns
returns c = settled-all c.loop-pending.settled.items (into_iter_items c.loop-pending.rest) (pendings_of c.args.pendings.items) c.loop-pending.invariant
    (omega (arith, c.in_default.ensures.cases.0, c.loop-pending.rest.rest.ok.0))
