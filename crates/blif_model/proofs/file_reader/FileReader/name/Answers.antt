use Rattle.std.proofs.Common.{◌≡◌, ◌∙◌, [], ◌∷◌, ◌++◌, Some, ap, sym, subst}
use Rattle.blif_model.specs.FileKnown.{FileKnown, titled_by}
use Rattle.blif_model.specs.Known.{Known}
use Rattle.blif_model.specs.Scanning.{IsWithin, word_of}
use Rattle.blif_model.proofs.Keeping.{kept-with, name-is}
use Rattle.blif_model.proofs.file_reader.FileReader.name.Goals as goal

pub invariant_of-self : goal.invariant_of-self
invariant_of-self c =
    let inside = c.self.inside in
    let kept = c.self.invariant in
    let same : c.args.self.own.named.whole ≡ inside.own.named.whole = sym (ap (λ (file : FileKnown). file.own.named.whole) c.self.view_is) in
    kept-with inside.own.named.whole c.title.new.self.named.whole inside.earlier inside.title inside.clocks inside.placements (Some c.args.word) inside.clocks
    (ap (λ (known : Known). known.named.whole) (c.in_ok-title.ensures [])) kept (subst (λ w. IsWithin w c.args.word) same c.requires.word) kept.2

pub returns : goal.returns
returns c = λ words.
    let inside = c.self.inside in
    let whole = inside.own.named.whole in
    name-is inside.earlier inside.titles c.add.new.self inside.title inside.own c.title.new.self inside.clocks inside.placements c.args.word words
    (c.in_ok-title.ensures (word_of whole c.args.word ∷ words))
    (c.in_ok-add.ensures.ok ∙ ap (λ text. inside.titles ++ text ∷ []) (c.text_of.ensures ∙ ap (λ w. (word_of w c.args.word).text) c.whole-whole.ensures.is))
    ∙ ap (λ (file : FileKnown). titled_by file (word_of file.own.named.whole c.args.word ∷ words)) c.self.view_is
