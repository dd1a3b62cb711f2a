use Rattle.std.proofs.Common.{◌≡◌, ℕ, false, get_or}
use Rattle.cdcl_incremental.proofs.incremental.mark.Given as goal

abbrev pub invariant-loop : goal.invariant-loop
invariant-loop l = (other : ℕ) → get_or l.is_lemma.items other false ≡ get_or l.initial.is_lemma.items other false
