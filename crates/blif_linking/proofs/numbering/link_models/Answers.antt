use Rattle.std.proofs.Common.{◌≡◌, ◌∙◌, map}
use Rattle.std.proofs.lemmas.Result.{IfOk-weaker}
use Rattle.blif_model.specs.FileKnown.{part_in}
use Rattle.blif_model.specs.Names.{place_of}
use Rattle.blif_linking.specs.Linked.{linked}
use Rattle.blif_linking.specs.Numbering.{numbered_among}
use Rattle.blif_linking.proofs.Weaving.{linked-is}
use Rattle.blif_linking.proofs.numbering.link_models.Goals as goal

pub returns : goal.returns
returns c = λ parts read names.
    let whole = c.args.whole.now in
    let text = c.args.text in
    let interfaces = c.args.interfaces.now in
    let texts = c.args.texts.now in
    IfOk-weaker c.numbered_among.result
    (λ models. models ≡ numbered_among (place_of text.titles) interfaces texts texts (map (part_in whole) text.models))
    (λ models. models ≡ linked parts)
    (λ models is. is ∙ linked-is whole text interfaces texts parts c.requires.offers read names)
    c.numbered_among.ensures
