use Rattle.std.proofs.Common.{[], ◌∷◌, map}
use Rattle.std.proofs.lemmas.Result.{on_ok_weaker}
use Rattle.clause_text.specs.Lines.{literals_text}
use Rattle.cert_theory.specs.Lines.{initial_line}
use Rattle.cert_text.proofs.Joining.{lines_added}
use Rattle.cert_text.proofs.inductive.add_clause_lines.Goals as goal

pub returns : goal.returns
returns c =
    on_ok_weaker c.add_line.result
    (λ last. lines_added (map literals_text c.args.clauses.now) (initial_line ∷ []) c.args.text.now.items c.add_clauses.new.text.items c.add_line.new.text.items c.in_ok-add_clauses.ensures last)
    c.add_line.ensures
