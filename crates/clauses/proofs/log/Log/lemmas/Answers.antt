use Rattle.std.proofs.Common.{sym, ap, ◌∙◌}
use Rattle.clauses.specs.Logs.{lemmas as lemma_count}
use Rattle.clauses.proofs.Packed.{lemmas_of-entries}
use Rattle.clauses.proofs.log.Log.lemmas.Goals as goal

pub returns : goal.returns
returns c =
    let log = c.self.inside in
    c.self.invariant.lemmas ∙ sym (lemmas_of-entries log.literals.items log.hints.items log.shapes.items) ∙ ap lemma_count c.self.view_is
