use Rattle.std.proofs.Common.{◌∙◌, sym}
use Rattle.wave_judge.proofs.Searching.{same-settled}
use Rattle.wave_judge.proofs.search.Search.is_settled.Goals as goal

pub returns-then-same-clause-settled : goal.returns-then-same-clause-settled
returns-then-same-clause-settled c =
    let span = c.args.span.now in
    let middle = c.args.middle.now in
    sym
    (same-settled c.args.self.now.side c.args.self.now.pass.automaton.now c.args.self.now.pass.recording.now middle.count span.above.count span.below.block middle span.above
    c.requires.middle c.requires.span.above (sym c.values-values.ensures ∙ c.same.ensures.0 c.if-same.true ∙ c.values.ensures) ∙ c.requires.span.settled)

pub returns-then-same-2-clause-settled : goal.returns-then-same-2-clause-settled
returns-then-same-2-clause-settled c =
    let span = c.args.span.now in
    let middle = c.args.middle.now in
    sym
    (same-settled c.args.self.now.side c.args.self.now.pass.automaton.now c.args.self.now.pass.recording.now middle.count span.below.count span.below.block middle span.below
    c.requires.middle c.requires.span.below (sym c.values-values.ensures ∙ c.same-2.ensures.0 c.if-same-2.true ∙ c.values-2.ensures) ∙ c.requires.span.unsettled)
