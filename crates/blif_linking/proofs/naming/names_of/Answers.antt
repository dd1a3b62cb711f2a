use Rattle.std.proofs.Common.{◌≡◌, ◌∙◌, List, ap, map}
use Rattle.std.proofs.lemmas.Result.{IfOk-weaker}
use Rattle.blif_model.specs.declared.file.FileModel.{FileModel}
use Rattle.blif_model.specs.FileKnown.{part_in}
use Rattle.blif_model.specs.Names.{place_of}
use Rattle.blif_linking.specs.Linked.{linked_texts}
use Rattle.blif_linking.specs.Naming.{named_within}
use Rattle.blif_linking.proofs.Gathering.{named-is}
use Rattle.blif_linking.proofs.naming.names_of.Goals as goal

pub returns : goal.returns
returns c = λ parts read.
    let whole = c.args.whole.now in
    let text = c.args.text.now in
    let interfaces = c.args.interfaces.now in
    IfOk-weaker c.named_among.result
    (λ texts. texts ≡ map (named_within (place_of text.titles) interfaces) (map (part_in whole) c.as_slice.result.now))
    (λ texts. texts ≡ linked_texts parts)
    (λ texts is.
    is
    ∙ ap (λ (models : List FileModel). map (named_within (place_of text.titles) interfaces) (map (part_in whole) models)) c.as_slice.ensures
    ∙ named-is whole text interfaces parts c.requires.offers read)
    c.named_among.ensures
