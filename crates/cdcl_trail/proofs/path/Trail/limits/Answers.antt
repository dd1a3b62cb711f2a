use Rattle.std.proofs.Common.{refl}
use Rattle.cdcl_trail.proofs.Paths.{path}
use Rattle.cdcl_trail.specs.Fields.{path_of}
use Rattle.cdcl_trail.proofs.path.Trail.limits.Goals as goal

pub returns-clause-path : goal.returns-clause-path
returns-clause-path c =
    let of = c.self.inside in
    let keeps = c.self.invariant in
    rw (← c.self.view_is) (path (path_of of) of.marks.items of.places.items keeps.marks keeps.places keeps.size refl keeps.reasons keeps.rising keeps.begun)
