use Rattle.gates_covers.proofs.Listed.{covers-are}
use Rattle.gates_covers.proofs.laws.covers_law.Goals as goal

pub returns : goal.returns
returns c = covers-are
