use Rattle.std.proofs.Common.{length, set}
use Rattle.std.proofs.lemmas.Result.{IfOk-weaker}
use Rattle.cdcl_conflict.specs.declared.standing.Standing.TheVariants.{Explained}
use Rattle.cdcl_conflict.specs.Views.{steps_of}
use Rattle.cdcl_conflict.specs.Standings.{IsReaching, IsExplaining}
use Rattle.cdcl_conflict.proofs.Exploring.{explaining_from}
use Rattle.cdcl_conflict.proofs.explain.explain.Goals as goal

pub returns : goal.returns
returns c =
    let steps = steps_of c.args.trail.now in
    let old = c.args.standings.now in
    let reached = c.args.reached.now.items in
    let reason = c.requires.trail.reasoned c.args.place c.requires.place c.requires.reasoned in
    IfOk-weaker c.reach_clause.result
    (IsReaching steps c.clause_at-reason.result.now c.args.place (length c.clause_at-reason.result.now) (set old c.args.place Explained) reached c.reach_clause.new.standings c.reach_clause.new.reached.items)
    (IsExplaining c.args.clauses.now steps c.args.place old reached c.reach_clause.new.standings c.reach_clause.new.reached.items)
    (λ waiting. explaining_from c.args.clauses.now steps c.args.place c.clause_at-reason.result.now old reached c.reach_clause.new.standings c.reach_clause.new.reached.items waiting reason c.clause_at-reason.ensures c.requires.waits)
    c.reach_clause.ensures
