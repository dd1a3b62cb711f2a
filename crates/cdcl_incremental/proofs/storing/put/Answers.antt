use Rattle.std.specs.List.{Contains}
use Rattle.std.proofs.lemmas.List.Elements.{All-contains}
use Rattle.cdcl_trail.specs.Literals.{opposite}
use Rattle.cdcl_incremental.proofs.Rests.{watch_of}
use Rattle.cdcl_incremental.proofs.storing.put.Goals as goal

pub attach-requires-clause-second_watch : goal.attach-requires-clause-second_watch
attach-requires-clause-second_watch c =
    let state = c.args.propagator.now in
    watch_of state c.in-Some.second
    (All-contains (λ literal. Contains state.path.literals (opposite literal) → ⊥) c.args.rest.now c.in-Some.second c.requires.not_false c.in-Some.ensures.some.0)
