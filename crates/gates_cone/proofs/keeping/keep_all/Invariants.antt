use Rattle.std.proofs.Common.{take}
use Rattle.gates_cone.specs.Keeping.{AreListed, GoesOn, Keeps}
use Rattle.gates_cone.proofs.keeping.keep_all.Given as goal

abbrev pub invariant-loop-i : goal.invariant-loop-i
invariant-loop-i l = record {
  keeps : Keeps l.initial.kept l.kept (take l.i l.signals);
  listed : AreListed l.kept l.found.items;
  goes_on : GoesOn l.initial.found.items l.found.items;
}
