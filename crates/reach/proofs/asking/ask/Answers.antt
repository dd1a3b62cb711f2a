use Rattle.std.proofs.Common.{◌∙◌, List, sym, subst}
use Rattle.clauses.specs.Logs.{LogEntry}
use Rattle.cdcl.specs.Answers.{IsAnswer, IsFull, IsSpent}
use Rattle.reach.specs.Answers.{AreSpent, IsLogFull}
use Rattle.reach.specs.Questions.{query_of}
use Rattle.reach.proofs.Plain.{query-within}
use Rattle.reach_frames.specs.declared.stop.ReachQuery.{ReachQuery}
use Rattle.reach.proofs.asking.ask.Goals as goal

pub formula-requires : goal.formula-requires
formula-requires c = query-within c.args.joint.now (query_of c.args.question) c.requires

pub returns-in-Spent-clause-stopped : goal.returns-in-Spent-clause-stopped
returns-in-Spent-clause-stopped c =
    let spent : IsSpent c.in-Ok.formula c.args.steps c.in-Spent.log =
    subst (IsAnswer c.in-Ok.formula c.args.steps) c.in-Spent.is c.in_ok-values.ensures in
    subst (λ (q : ReachQuery). AreSpent c.args.joint.now c.args.steps q c.in_ok-boxed-in-Spent.field-0.value)
    (sym (c.in_ok-query-in-Spent-2.ensures ∙ c.in_ok-query-in-Spent.ensures))
    (subst (λ (l : List LogEntry). AreSpent c.args.joint.now c.args.steps (query_of c.args.question) l) (sym c.in_ok-boxed-in-Spent.ensures)
    (record { plain = c.requires; formula = c.in-Ok.formula; is = c.in-Ok.ensures.formula; spent = spent }))

pub returns-clause-stopped : goal.returns-clause-stopped
returns-clause-stopped c =
    let full : IsFull c.in-Ok.formula c.args.steps c.in-LogFull.log =
    subst (IsAnswer c.in-Ok.formula c.args.steps) c.in-LogFull.is c.in_ok-values.ensures in
    subst (λ (q : ReachQuery). IsLogFull c.args.joint.now c.args.steps q c.in_ok-boxed-in-LogFull.field-0.value)
    (sym (c.in_ok-query-in-LogFull-2.ensures ∙ c.in_ok-query-in-LogFull.ensures))
    (subst (λ (l : List LogEntry). IsLogFull c.args.joint.now c.args.steps (query_of c.args.question) l) (sym c.in_ok-boxed-in-LogFull.ensures)
    (record { plain = c.requires; formula = c.in-Ok.formula; is = c.in-Ok.ensures.formula; full = full }))
