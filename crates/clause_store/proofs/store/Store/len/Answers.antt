use Rattle.std.proofs.Common.{arith}
use Rattle.clause_store.proofs.Runs.{length-clauses}
use Rattle.clause_store.proofs.store.Store.len.Goals as goal

pub returns : goal.returns
returns c = rw (← c.self.view_is) (omega (arith, c.len.ensures, length-clauses c.self.inside.words.items 0 c.self.inside.ends.items))
