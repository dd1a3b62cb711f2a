use Rattle.std.proofs.Common.{◌∙◌, ap, sym}
use Rattle.psl_layer_theory.specs.LookUp.{is_named}
use Rattle.psl_names.specs.Alike.{first_passes}
use Rattle.psl_names.proofs.Refs.{from_place}
use Rattle.psl_names.proofs.matching.is_named_at.Goals as goal

pub returns-then-place-sorted : goal.returns-then-place-sorted
returns-then-place-sorted c =
    c.is_named.ensures
    ∙ ap (first_passes (is_named c.args.text.now)) (sym (from_place c.args.sorted.now c.index-sorted-place.result c.args.place c.if-place-sorted.true c.index-sorted-place.is))
