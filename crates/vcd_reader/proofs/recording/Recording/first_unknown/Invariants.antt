use Rattle.std.proofs.Common.{◌≡◌, ◌≤◌, length, take}
use Rattle.vcd_reader.specs.FirstUnknown.{earliest}
use Rattle.vcd_reader.specs.Tested.{atoms_tested}
use Rattle.vcd_reader.proofs.recording.Recording.first_unknown.Given as goal

abbrev pub invariant-loop-directive : goal.invariant-loop-directive
invariant-loop-directive l = record {
  is : l.first ≡ earliest l.fn.self (atoms_tested (take l.directive-index l.directive-items)) (length l.fn.self.samples);
  within : l.first ≤ length l.fn.self.samples;
}
