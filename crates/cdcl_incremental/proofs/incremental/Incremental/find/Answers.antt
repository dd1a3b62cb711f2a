use Rattle.std.proofs.Common.{◌≡◌, ℕ, Option, Some, None, IfNone, refl}
use Rattle.cdcl_incremental.proofs.incremental.Incremental.find.Goals as goal

pub returns-in_default-next-clause-found : goal.returns-in_default-next-clause-found
returns-in_default-next-clause-found c = record {
  head = ended c.in_ok-conflict.field-0 c.in_default.not-Some c.in_ok-conflict.ensures.ended;
  complete = rw c.trail-trail.ensures.is at c.in_default-next.ensures.none;
}
  where
    ended : {P : Type 0} (conflict : Option ℕ) → ((x : ℕ) → conflict ≡ Some x → ⊥) → IfNone conflict P → P
    ended None never holds = holds
    ended (Some x) never holds = absurd (never x refl)
