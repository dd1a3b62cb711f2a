use Rattle.std.proofs.Common.{sym, subst, Bool as Truth, List, length}
use Rattle.psl_tree.specs.Holds.{holds}
use Rattle.psl_tree.specs.Trees.{boolean_of}
use Rattle.lasso_tables.specs.Seen.{seen_at}
use Rattle.lasso_tables.specs.Tables.{Has}
use Rattle.lasso_judge.proofs.Followed.{halted-whole}
use Rattle.lasso_judge.proofs.Forms.{sink-is}
use Rattle.lasso_judge.proofs.abort.stopped_course.Goals as goal

pub returns-clause-whole : goal.returns-clause-whole
returns-clause-whole c =
    halted-whole c.args.word.now c.args.flipped (boolean_of c.args.test.now) c.args.next.now c.in_ok-next.next.items c.deref.result.now c.sink-sink.result c.requires
    (subst (λ (stops : List Truth). Has (length c.args.next.now) (λ p. holds (seen_at c.args.word.now c.args.flipped p) (boolean_of c.args.test.now)) stops) (sym c.deref.ensures.value) c.in_ok-stops.ensures)
    c.in_ok-next.ensures (sink-is c.args.word.now c.args.next.now c.sink-sink.result c.requires c.args.flipped c.sink-sink.ensures)
