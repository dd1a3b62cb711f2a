use Rattle.std.proofs.Common.{inr, ⊎_elim, subst, IsTrue, ◌↔◌, Contains, Some, arith}
use Rattle.netlist_order.specs.Graph.{inputs_of}
use Rattle.netlist_order.proofs.Turning.{Reads-contains, Contains-reads}
use Rattle.netlist_order.proofs.order.is_cyclic.Goals as goal

pub returns-else-open-place-gt1 : goal.returns-else-open-place-gt1
returns-else-open-place-gt1 c =
    let graph = c.args.wiring.now in
    let says = subst (λ t. IsTrue c.reads_itself.result ↔ Contains (inputs_of graph t) (Some t)) c.table.ensures c.reads_itself.ensures in (
      λ yes. inr (Reads-contains graph _ _ (says.0 yes)),
      λ cyclic. ⊎_elim (λ several. absurd (omega (arith, several))) (λ reads. says.1 (Contains-reads graph _ _ reads)) cyclic,
    )
