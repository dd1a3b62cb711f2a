use Rattle.std.proofs.Common.{rules, ◌≡◌, subst, IfOk}
use Rattle.blif_flat.proofs.Splitting.{table-split, table-none}
use Rattle.blif_flat.proofs.parts.table_of.Goals as goal

pub returns-in-Some : goal.returns-in-Some
returns-in-Some c =
    subst (λ wanted. IfOk c.table_with.result (λ table. table ≡ wanted))
    (table-split c.args.rows.now c.args.numbers.now c.in-Some.inputs.now c.in-Some.output.now c.in-Some.ensures.cases.0) c.table_with.ensures

pub returns-in-None : goal.returns-in-None
returns-in-None c =
    subst (λ wanted. IfOk c.table_with-in-None.result (λ table. table ≡ wanted))
    (table-none c.args.rows.now c.args.numbers.now (search rules)) c.table_with-in-None.ensures
