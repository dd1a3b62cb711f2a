use Rattle.std.proofs.Common.{◌<◌, ◌^◌, sym, subst, length}
use Rattle.std.specs.Prelude.{All}
use Rattle.blif_hierarchy.specs.First.{IsClosed}
use Rattle.blif_hierarchy.specs.Sums.{AreInForm}
use Rattle.blif_linking.proofs.Closed.{linked-closed}
use Rattle.blif_linking.proofs.Few.{texts-few, titles-small}
use Rattle.blif_linking.proofs.Forming.{linked-form}
use Rattle.blif_linking.proofs.linking.link.Goals as goal

pub link_models-requires-clause-titles : goal.link_models-requires-clause-titles
link_models-requires-clause-titles c =
    let says = c.requires.says in
    titles-small c.args.whole.now c.args.text.titles says.0 says.1 c.requires.limit says.2.1

pub link_models-requires-clause-few : goal.link_models-requires-clause-few
link_models-requires-clause-few c =
    let says = c.requires.says in
    subst (All (λ names. length names < 2 ^ 32)) (sym (c.in_ok-texts.ensures says.0 (says.1, says.2))) (texts-few c.args.whole.now says.0 says.1 c.requires.limit)

pub returns-clause-models : goal.returns-clause-models
returns-clause-models c = λ parts read. c.in_ok-models.ensures parts read (c.in_ok-texts.ensures parts read)

pub returns-clause-texts : goal.returns-clause-texts
returns-clause-texts c = λ parts read. c.in_ok-texts.ensures parts read

pub returns-clause-closed : goal.returns-clause-closed
returns-clause-closed c = λ parts read none.
    subst IsClosed (sym (c.in_ok-models.ensures parts read (c.in_ok-texts.ensures parts read))) (linked-closed parts none)

pub returns-clause-form : goal.returns-clause-form
returns-clause-form c = λ parts read none.
    subst AreInForm (sym (c.in_ok-models.ensures parts read (c.in_ok-texts.ensures parts read))) (linked-form parts none)
