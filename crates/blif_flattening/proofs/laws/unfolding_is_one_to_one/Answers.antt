use Rattle.blif_flattening.proofs.Keeping.{unfolds_to_trees, unfolds_flat_only, unfolds_to_each, unfolds_from_one}
use Rattle.blif_flattening.proofs.laws.unfolding_is_one_to_one.Goals as goal

pub returns-clause-trees : goal.returns-clause-trees
returns-clause-trees g c = unfolds_to_trees g.row.L.Denot g.L.Line.mentions c.args.models.now

pub returns-clause-flat : goal.returns-clause-flat
returns-clause-flat g c = unfolds_flat_only g.row.L.Denot g.L.Line.mentions c.args.models.now

pub returns-clause-each : goal.returns-clause-each
returns-clause-each g c = unfolds_to_each g.row.L.Denot g.L.Line.mentions c.args.models.now

pub returns-clause-one : goal.returns-clause-one
returns-clause-one g c = unfolds_from_one g.row.L.Denot g.L.Line.mentions c.args.models.now
