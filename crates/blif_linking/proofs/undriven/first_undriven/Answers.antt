use Rattle.std.proofs.Common.{◌≡◌, ◌∙◌, List, ap, map}
use Rattle.std.specs.Option.{option_map}
use Rattle.std.proofs.lemmas.Result.{IfOk-weaker}
use Rattle.blif_model.specs.declared.file.FileModel.{FileModel}
use Rattle.blif_model.specs.FileKnown.{part_in}
use Rattle.blif_model.specs.Names.{place_of}
use Rattle.blif_model.specs.Scanning.{word_of}
use Rattle.blif_linking.specs.Actuals.{at_place}
use Rattle.blif_linking.specs.Names.{first_undriven}
use Rattle.blif_linking.specs.Undriven.{undriven_among}
use Rattle.blif_linking.proofs.Drivers.{spans-at}
use Rattle.blif_linking.proofs.Freeing.{undriven-is}
use Rattle.blif_linking.proofs.undriven.first_undriven.Goals as goal

pub returns : goal.returns
returns c = λ parts read.
    let whole = c.args.whole.now in
    let text = c.args.text.now in
    let interfaces = c.args.interfaces.now in
    IfOk-weaker c.undriven_among.result
    (λ found. at_place (option_map (word_of whole) found) ≡ undriven_among (place_of text.titles) interfaces (map (part_in whole) c.as_slice.result.now))
    (λ found. option_map (λ word. (word_of whole word).place) found ≡ at_place (first_undriven parts))
    (λ found is.
    spans-at whole found
    ∙ is
    ∙ ap (λ (models : List FileModel). undriven_among (place_of text.titles) interfaces (map (part_in whole) models)) c.as_slice.ensures
    ∙ undriven-is whole text interfaces parts c.requires.offers read)
    c.undriven_among.ensures
