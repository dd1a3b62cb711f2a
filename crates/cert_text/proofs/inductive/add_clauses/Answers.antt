use Rattle.std.proofs.Common.{◌++◌}
use Rattle.clause_text.specs.Lines.{literals_text}
use Rattle.cert_theory.specs.Lines.{lines_text}
use Rattle.std.specs.Prelude.{map}
use Rattle.cert_text.proofs.Joining.{line_step}
use Rattle.cert_text.proofs.inductive.add_clauses.Goals as goal

pub loop-place-preserved : goal.loop-place-preserved
loop-place-preserved c =
    line_step c.loop-place.text.items c.add_clause_line.new.text.items (c.args.text.now.items ++ lines_text (map literals_text c.args.clauses.now)) c.args.clauses.now
    c.loop-place.place c.at.result.now c.at.ensures.is c.in_ok-add_clause_line.ensures c.loop-place.invariant
