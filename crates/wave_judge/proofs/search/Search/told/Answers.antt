use Rattle.std.proofs.Common.{◌∙◌, ap, ℕ, Bool, List}
use Rattle.alternating.specs.Stepped.{value_at}
use Rattle.wave_judge.proofs.Searching.{start-settles}
use Rattle.wave_judge.proofs.search.Search.told.Goals as goal
use Rattle.wave_judge.specs.Sides.{settles}

pub returns : goal.returns
returns c =
    let automaton = c.args.self.now.pass.automaton.now in
    c.settles.ensures
    ∙ ap (settles c.args.self.now.side)
    (c.get.ensures ∙ ap (λ (q : ℕ). value_at c.values-values.result.now q) c.start.ensures.shown ∙ ap (λ (l : List Bool). value_at l automaton.start) c.values-values.ensures)
    ∙ start-settles c.args.self.now.side automaton c.args.self.now.pass.recording.now c.args.first.now.count c.args.first.now c.requires
