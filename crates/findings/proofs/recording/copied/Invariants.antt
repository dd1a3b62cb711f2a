use Rattle.std.proofs.Common.{◌≡◌, take}
use Rattle.findings.proofs.recording.copied.Given as goal

abbrev pub invariant-loop-valuation : goal.invariant-loop-valuation
invariant-loop-valuation l = l.copies ≡ take l.valuation-index l.valuations
