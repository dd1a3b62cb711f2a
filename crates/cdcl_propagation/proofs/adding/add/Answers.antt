use Rattle.std.proofs.Common.{◌≡◌, ◌∙◌, ◌-◌, Some, None, [], length, refl, inr, arith}
use Rattle.std.proofs.lemmas.List.{set_at}
use Rattle.cdcl_propagation.proofs.adding.add.Goals as goal

pub returns-then-is_err-clause-err : goal.returns-then-is_err-clause-err
returns-then-is_err-clause-err c =
    let clauses = c.args.clauses.now in
    let adds = c.in_ok-number.ensures.ok in
    let place : c.in_ok-number.number - 1 ≡ length clauses = omega (arith, c.in_ok-number.ensures.number) in
    inr record {
      new_clauses = c.remove.ensures ∙ rw (adds.new_clauses, place) (set_at clauses (Some c.args.clause.now) [] None (length clauses) refl);
      new_pairs = adds.new_pairs;
    }
