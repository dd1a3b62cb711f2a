use Rattle.std.proofs.Common.{◌≡◌, ◌∙◌, take, ap, arith}
use Rattle.std.proofs.lemmas.List.{with_items_is}
use Rattle.clause_store.specs.Fields.{clauses_of}
use Rattle.clause_store.proofs.Runs.{clauses-cut}
use Rattle.clause_store.proofs.region.compact.Goals as goal

pub returns-clause-clauses : goal.returns-clause-clauses
returns-clause-clauses c =
    let gaps = c.close_gaps-end in
    let written = with_items_is c.args.words.now gaps.new.words (omega (arith, gaps.auto.words, c.deref_mut.ensures.len)) in
    let left : c.truncate.new.self.items ≡ take gaps.result gaps.new.words = c.truncate.ensures.items ∙ ap (take gaps.result) written in
    ap (λ words. clauses_of words gaps.new.ends) left
    ∙ clauses-cut gaps.new.words 0 gaps.new.ends gaps.result gaps.ensures.rising gaps.ensures.within
    ∙ gaps.ensures.clauses ∙ ap (λ words. clauses_of words c.args.ends.now) c.deref_mut.ensures.value
