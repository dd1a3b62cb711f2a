use Rattle.std.proofs.Common.{◌∙◌, List, ap, map}
use Rattle.blif_model.specs.declared.file.FileModel.{FileModel}
use Rattle.blif_model.specs.FileKnown.{part_in}
use Rattle.blif_model.specs.Names.{place_of}
use Rattle.blif_linking.specs.Names.{unknown_from}
use Rattle.blif_linking.proofs.Unknowing.{unknown-is}
use Rattle.blif_linking.proofs.unknown.first_unknown.Goals as goal

pub returns : goal.returns
returns c = λ parts numbered.
    c.unknown_from.ensures
    ∙ ap (λ (models : List FileModel). unknown_from (place_of c.args.text.now.titles) (map (part_in c.args.whole.now) models)) c.as_slice.ensures
    ∙ unknown-is c.args.whole.now c.args.text.now parts numbered
