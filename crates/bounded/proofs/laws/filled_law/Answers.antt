use Rattle.gates_order.proofs.Orders.{is-order}
use Rattle.bounded.proofs.Filling.{filled-one}
use Rattle.bounded.proofs.laws.filled_law.Goals as goal

pub returns : goal.returns
returns c design order free valuation sound ordered is = filled-one design sound (is-order design sound order ordered) free valuation is
