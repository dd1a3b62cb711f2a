use Rattle.std.proofs.Common.{◌≡◌, ◌+◌, drop}
use Rattle.psl_base.specs.Packed.{covered}
use Rattle.psl_base.proofs.packed.covered.Given as goal

abbrev pub invariant-loop-span : goal.invariant-loop-span
invariant-loop-span l = l.size + covered (drop l.span-index l.spans) ≡ covered l.spans
