use Rattle.std.proofs.Common.{length, refl, ap, arith}
use Rattle.clause_store.specs.Stored.{stored_words}
use Rattle.cdcl_incremental.proofs.Asking.{can_keep, on_true_both}
use Rattle.cdcl_incremental.proofs.incremental.Incremental.study.Goals as goal

pub returns-clause-can : goal.returns-clause-can
returns-clause-can c =
    let solver = c.args.self.now in
    let hints = c.analyze.new.lemma.hints.items in
    on_true_both c.has_room.result
    (λ words numbers.
    can_keep solver _ hints refl refl c.requires.grown c.trail.ensures.settled c.requires.levels (c.in_ok-analyze.ensures.learned c.requires.levels)
    (omega (arith, words, ap stored_words c.clauses-clauses.ensures, c.len-2.ensures))
    (omega (arith, numbers, ap length c.clauses-clauses.ensures)))
    c.has_room.ensures.words
    c.has_room.ensures.numbers
