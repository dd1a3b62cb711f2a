use Rattle.blif_hierarchy.proofs.Few.{has_few_signals}
use Rattle.blif_hierarchy.proofs.Once.{is_driven_once, drives_signals}
use Rattle.blif_hierarchy.proofs.laws.hierarchy_law.Goals as goal

pub returns-clause-few : goal.returns-clause-few
returns-clause-few g c = has_few_signals g.row.L.Denot g.L.Line.mentions c.args.models.now

pub returns-clause-once : goal.returns-clause-once
returns-clause-once g c = is_driven_once g.row.L.Denot g.L.Line.mentions c.args.models.now

pub returns-clause-only : goal.returns-clause-only
returns-clause-only g c = drives_signals g.row.L.Denot g.L.Line.mentions c.args.models.now
