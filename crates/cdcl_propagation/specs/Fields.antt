-- What a propagator keeps of its fields, and what they stand for.
use Rattle.std.specs.Prelude.{◌<◌, ◌^◌, length}
use Rattle.cdcl_propagation.specs.declared.propagator.Propagator.TheInside.{Inside}
use Rattle.cdcl_propagation.specs.State.{State, HasReasons}
use Rattle.cdcl_propagation.specs.Watching.{IsWatched}

abbrev pub state_of : Inside → State
state_of inner = record { clauses = inner.clauses; path = inner.trail; head = inner.head }

pub record IsPropagator (inner : Inside) : Type 0 where
  pub watched : IsWatched inner.clauses inner.pairs.items inner.lists.items inner.trail inner.head
  pub reasons : HasReasons inner.clauses inner.trail
  pub few : length inner.clauses < 2 ^ 32
