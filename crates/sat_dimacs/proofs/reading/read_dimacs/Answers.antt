use Rattle.std.proofs.Common.{sym, subst}
use Rattle.std.proofs.lemmas.Result.{err_from_is_err_and}
use Rattle.sat_dimacs.specs.Words.{all_words}
use Rattle.sat_dimacs.proofs.Stopping.{ReadsTo, reads_more, word_fault}
use Rattle.sat_dimacs.proofs.reading.read_dimacs.Goals as goal

pub loop-word-preserved : goal.loop-word-preserved
loop-word-preserved c =
    subst (λ variables. ReadsTo (all_words c.args.text.now) c.next.new.self variables c.in_ok-header.header.clauses c.add_word.new.cnf.clauses c.add_word.new.clause.items)
    (sym c.in_ok-add_word.ensures.variables)
    (reads_more c.add_word.new.cnf.clauses c.add_word.new.clause.items c.in-Some.word c.loop-word.invariant c.in-Some.ensures c.in_ok-add_word.ensures.fits c.in_ok-add_word.ensures.ok)

pub returns-in_err-add_word-clause-fault : goal.returns-in_err-add_word-clause-fault
returns-in_err-add_word-clause-fault c =
    let p = err_from_is_err_and c.from_residual-in_err-add_word.result c.from_residual-in_err-add_word.ensures.1 in
    rw (p.1, p.2) (word_fault c.in-Some.word c.in_err-add_word.field-0.0 c.loop-word.invariant c.in-Some.ensures c.in_err-add_word.ensures.err)
