use Rattle.std.proofs.Common.{arith}
use Rattle.clauses.specs.declared.log.Shape.TheVariants as shape
use Rattle.clauses.specs.Logs.{is_entry}
use Rattle.std.specs.Bool.{IsTrue}
use Rattle.clauses.specs.Logs.LogEntry.{Forget}
use Rattle.clauses.proofs.Packed.{entries_of-push_drop, packed-push_drop, count-push}
use Rattle.clauses.proofs.log.Log.push.Goals as goal

pub invariant_of-self-in-Forget : goal.invariant_of-self-in-Forget
invariant_of-self-in-Forget c =
    let log = c.self.inside in
    let some : IsTrue (is_entry (Forget c.in-Forget.number)) = rw c.in-Forget.is at c.requires.entry in
    let items = c.in_ok-push-in-Forget.ensures.items in
    let count = count-push log.shapes.items (shape.Forget c.in-Forget.number) in
    record {
      packed = rw items (packed-push_drop log.literals.items log.hints.items log.shapes.items c.in-Forget.number c.self.invariant.packed some);
      lemmas = rw items (omega (arith, count, c.self.invariant.lemmas));
      few = c.self.invariant.few;
    }

pub returns-in_ok-push-in-Forget-clause-ok : goal.returns-in_ok-push-in-Forget-clause-ok
returns-in_ok-push-in-Forget-clause-ok c =
    let log = c.self.inside in
    rw (c.in_ok-push-in-Forget.ensures.items, c.in-Forget.is, ← c.self.view_is) (entries_of-push_drop log.literals.items log.hints.items log.shapes.items c.in-Forget.number)
