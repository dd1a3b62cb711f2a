use Rattle.std.proofs.Common.{ℕ, take}
use Rattle.cdcl_incremental.specs.Cores.{IsFlag, IsExplained}
use Rattle.cdcl_incremental.proofs.final_core.flag_others.Given as goal

abbrev pub invariant-loop-other : goal.invariant-loop-other
invariant-loop-other l = record {
  more : (at : ℕ) → IsFlag l.initial.flags at → IsFlag l.flags at;
  all : IsExplained l.trail l.flags l.place (take l.other-index l.clause);
}
