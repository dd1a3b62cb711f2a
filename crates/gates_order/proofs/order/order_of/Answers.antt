use Rattle.std.proofs.Common.{◌≡◌, sym, subst, ◌∙◌}
use Rattle.std.proofs.lemmas.Result.{IfOk-weaker}
use Rattle.netlist.specs.Sound.{IsOrder}
use Rattle.netlist.proofs.Driving.{outputs-within}
use Rattle.gates_order.specs.Depths.{order_of}
use Rattle.gates_order.proofs.Orders.{is-order}
use Rattle.gates_order.proofs.Steps.{layers-joined}
use Rattle.gates_order.proofs.order.order_of.Goals as goal

pub layers_of-requires-clause-outputs : goal.layers_of-requires-clause-outputs
layers_of-requires-clause-outputs c = rw (c.as_slice-2.ensures, c.tables.ensures, c.as_slice-3.ensures.value, c.in_ok-levels.ensures.size) (outputs-within c.args.netlist.now c.soundness_law.ensures.sound)

pub returns-clause-is : goal.returns-clause-is
returns-clause-is c =
    IfOk-weaker c.joined.result _ (λ order. order ≡ order_of c.args.netlist.now.tables)
    (λ order is. layers-joined c.args.netlist.now.tables c.as_slice-2.result.now c.in_ok-layers.layers.items c.as_slice-4.result.now order (c.as_slice-2.ensures ∙ c.tables.ensures) c.as_slice-4.ensures.value c.in_ok-layers.ensures is) c.joined.ensures

pub returns-clause-order : goal.returns-clause-order
returns-clause-order c =
    let some = c.soundness_law.ensures.ordered in
    let ordered = is-order c.args.netlist.now c.soundness_law.ensures.sound some.0 some.1 in
    IfOk-weaker c.joined.result _ (λ order. IsOrder c.args.netlist.now.tables order)
    (λ order is. (let same = layers-joined c.args.netlist.now.tables c.as_slice-2.result.now c.in_ok-layers.layers.items c.as_slice-4.result.now order (c.as_slice-2.ensures ∙ c.tables.ensures) c.as_slice-4.ensures.value c.in_ok-layers.ensures is in
    subst (IsOrder c.args.netlist.now.tables) (sym same) ordered)) c.joined.ensures
