-- What a builder is when nodes were added to it.
use Rattle.std.specs.Prelude.{◌≡◌, ◌≤◌}
use Rattle.gates_builder.specs.Adding.{Making}
use Rattle.gates_nodes.specs.Nodes.{variables_of}

-- there are the same covers, and each variable that there was
pub record IsLater (old new : Making) : Type 0 where
  pub covers : new.covers ≡ old.covers
  pub more : variables_of old.given old.nodes ≤ variables_of new.given new.nodes
