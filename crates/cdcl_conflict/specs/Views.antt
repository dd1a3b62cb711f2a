-- What a view of a trail stands for.
use Rattle.cdcl_conflict_theory.specs.Trails.{Steps}
use Rattle.cdcl_conflict.specs.declared.view.TrailView.{TrailView}

abbrev pub steps_of : TrailView → Steps
steps_of view = record { literals = view.literals.now; reasons = view.reasons.now; fixed = view.fixed; start = view.start }
