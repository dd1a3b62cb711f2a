use Rattle.std.proofs.Common.{◌≡◌, [], replicate}
use Rattle.sere_nfa.proofs.sources.no_sources.Given as goal

abbrev pub invariant-loop-added : goal.invariant-loop-added
invariant-loop-added l = l.sources.items ≡ replicate l._added []
