use Rattle.std.proofs.Common.{◌≡◌, ◌∙◌, List, ap, map, subst, sym}
use Rattle.std.proofs.lemmas.Result.{IfOk-weaker}
use Rattle.blif_hierarchy.specs.First.{IsClosed}
use Rattle.blif_model.specs.declared.file.FileModel.{FileModel}
use Rattle.blif_model.specs.FileKnown.{part_in}
use Rattle.blif_model.specs.Names.{place_of}
use Rattle.blif_linking.specs.Bare.{bare, outlined_part}
use Rattle.blif_linking.specs.Linked.{linked}
use Rattle.blif_linking.proofs.Bare.{closed-bare}
use Rattle.blif_linking.proofs.Closed.{linked-closed}
use Rattle.blif_linking.proofs.Few.{titles-small}
use Rattle.blif_linking.proofs.Outlined.{outline-is}
use Rattle.blif_linking.proofs.outlining.outline.Goals as goal

pub outlined-requires-clause-titles : goal.outlined-requires-clause-titles
outlined-requires-clause-titles c =
    let says = c.requires.says in
    titles-small c.args.whole.now c.args.text.now.titles says.0 says.1 c.requires.limit says.2.1

pub returns-clause-models : goal.returns-clause-models
returns-clause-models c = λ parts read.
    let whole = c.args.whole.now in
    let text = c.args.text.now in
    IfOk-weaker c.outlined.result
    (λ models. models ≡ map (outlined_part (place_of text.titles)) (map (part_in whole) c.as_slice.result.now))
    (λ models. models ≡ bare (linked parts))
    (λ models is.
    is ∙ ap (λ (models : List FileModel). map (outlined_part (place_of text.titles)) (map (part_in whole) models)) c.as_slice.ensures
    ∙ outline-is whole text parts read)
    c.outlined.ensures

pub returns-clause-closed : goal.returns-clause-closed
returns-clause-closed c = λ parts read none.
    IfOk-weaker c.outlined.result (λ models. models ≡ bare (linked parts)) IsClosed
    (λ models is. subst IsClosed (sym is) (closed-bare (linked parts) (linked-closed parts none)))
    (returns-clause-models c parts read)
