use Rattle.std.proofs.Common.{◌≡◌, ℕ, ◌+◌, ◌≤◌, length, Option, Some, None, IfNone, refl, ap, ◌∙◌, arith}
use Rattle.std.proofs.lemmas.List.{length_push, length-append}
use Rattle.cdcl.proofs.solver.Solver.find_conflict.Goals as goal

pub loop-conflict-smaller : goal.loop-conflict-smaller
loop-conflict-smaller c =
    let grown = c.in_ok-conflict.ensures.grown in
    let path = c.propagate.new.self.path in
    let few : length path.literals ≤ path.variables = c.trail-trail.ensures.settled.path.few in
    let longer : length path.literals ≡ length c.loop-conflict.self.propagator.path.literals + length grown.more =
    ap length grown.literals ∙ length-append c.loop-conflict.self.propagator.path.literals grown.more in
    rw c.decide.ensures (omega (arith, few, longer, grown.variables, length_push path.literals c.in-Some-next.literal))

pub returns-in_default-next-clause-solved : goal.returns-in_default-next-clause-solved
returns-in_default-next-clause-solved c = record {
  head = ended c.in_ok-conflict.field-0 c.in_default.not-Some c.in_ok-conflict.ensures.ended;
  complete = rw c.trail-trail.ensures.is at c.in_default-next.ensures.none;
}
  where
    ended : {P : Type 0} (conflict : Option ℕ) → ((x : ℕ) → conflict ≡ Some x → ⊥) → IfNone conflict P → P
    ended None never holds = holds
    ended (Some x) never holds = absurd (never x refl)
