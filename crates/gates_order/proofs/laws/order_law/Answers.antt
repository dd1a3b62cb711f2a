use Rattle.gates_order.proofs.Orders.{is-order}
use Rattle.gates_order.proofs.laws.order_law.Goals as goal

pub returns : goal.returns
returns c design some sound ordered = is-order design sound some ordered
