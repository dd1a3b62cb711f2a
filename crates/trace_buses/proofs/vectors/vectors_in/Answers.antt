use Rattle.std.proofs.Common.{◌≡◌, List, subst}
use Rattle.std.specs.Prelude.{IfOk}
use Rattle.psl_tree.specs.declared.name.Name.{Name}
use Rattle.trace_buses.proofs.vectors.vectors_in.Goals as goal
use Rattle.trace_buses.specs.Buses.{vectors_among}

pub returns : goal.returns
returns c = subst (λ (names : List Name). IfOk c.vectors_among.result (λ vectors. vectors ≡ vectors_among names)) c.in_ok-names.ensures.names c.vectors_among.ensures
