use Rattle.std.proofs.Common.{◌∙◌, ap, Err}
use Rattle.cert_theory.specs.Lines.{IsClauseLine}
use Rattle.cert_lines.proofs.Clausing.{clause_long, never_large}
use Rattle.cert_lines.proofs.clause_lines.take_clause.Goals as goal

pub unreachable-requires : goal.unreachable-requires
unreachable-requires c =
    let read = rw c.in-Some.is at c.in_ok-clause.ensures.some in
    let is : IsClauseLine c.args.line.now c.in-Some.clause.now = record { is = read.0; has = read.1 } in
    never_large c.args.clauses.now c.args.line.now c.in-Some.clause.now is c.requires
    (c.push.ensures.too_large (c.in-Err-TooLarge.is ∙ ap (λ fault. Err fault) c.in-Err-TooLarge.field-0-is))

pub returns-in-Ok-clause-room : goal.returns-in-Ok-clause-room
returns-in-Ok-clause-room c =
    let read = rw c.in-Some.is at c.in_ok-clause.ensures.some in
    let is : IsClauseLine c.args.line.now c.in-Some.clause.now = record { is = read.0; has = read.1 } in
    rw c.in-Ok.ensures.ok (clause_long c.args.clauses.now c.args.line.now c.in-Some.clause.now is)
