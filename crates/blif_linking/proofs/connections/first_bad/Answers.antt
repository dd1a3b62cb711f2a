use Rattle.std.proofs.Common.{◌≡◌, ◌∙◌, List, ap, map}
use Rattle.std.specs.Option.{option_map}
use Rattle.std.proofs.lemmas.Result.{IfOk-weaker}
use Rattle.blif_model.specs.declared.file.FileModel.{FileModel}
use Rattle.blif_model.specs.FileKnown.{part_in}
use Rattle.blif_model.specs.Names.{place_of}
use Rattle.blif_model.specs.Scanning.{word_of}
use Rattle.blif_linking.specs.Bad.{bad_among}
use Rattle.blif_linking.specs.Names.{first_bad}
use Rattle.blif_linking.proofs.Connecting.{bad-is}
use Rattle.blif_linking.proofs.connections.first_bad.Goals as goal

pub returns : goal.returns
returns c = λ parts read.
    let whole = c.args.whole.now in
    let text = c.args.text.now in
    let interfaces = c.args.interfaces.now in
    IfOk-weaker c.bad_among.result
    (λ bad. option_map (word_of whole) bad ≡ bad_among (place_of text.titles) interfaces (map (part_in whole) c.as_slice.result.now))
    (λ bad. option_map (word_of whole) bad ≡ first_bad parts)
    (λ bad is.
    is
    ∙ ap (λ (models : List FileModel). bad_among (place_of text.titles) interfaces (map (part_in whole) models)) c.as_slice.ensures
    ∙ bad-is whole text interfaces parts c.requires.offers read)
    c.bad_among.ensures
