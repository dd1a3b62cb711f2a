use Rattle.std.proofs.Common.{sym}
use Rattle.blif_flattening.proofs.Visiting.{names_of-get, names_of-none, model-read, model-none}
use Rattle.blif_hierarchy.proofs.cost.name_count.Goals as goal

pub returns-in-Some : goal.returns-in-Some
returns-in-Some g c =
    sym (names_of-get c.args.models.now c.args.model c.in-Some.model.now
    (model-read c.args.models.now c.as_slice.result.now c.args.model c.in-Some.model.now c.as_slice.ensures c.in-Some.ensures.lookup.3.0 c.in-Some.ensures.lookup.1))

pub returns-in-None : goal.returns-in-None
returns-in-None g c =
    sym (names_of-none c.args.models.now c.args.model
    (model-none c.args.models.now c.as_slice.result.now c.args.model c.as_slice.ensures c.in-None.ensures.lookup.3))
