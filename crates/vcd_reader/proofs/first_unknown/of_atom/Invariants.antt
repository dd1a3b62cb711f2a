use Rattle.std.proofs.Common.{◌≡◌, ℕ, ◌<◌, false}
use Rattle.vcd_reader.specs.FirstUnknown.{is_unknown_for}
use Rattle.vcd_reader.proofs.first_unknown.of_atom.Given as goal

abbrev pub invariant-loop-sample : goal.invariant-loop-sample
invariant-loop-sample l = (sample : ℕ) → sample < l.sample → is_unknown_for l.fn.recording sample l.fn.atom ≡ false
