use Rattle.std.proofs.Common.{◌≡◌, false, take}
use Rattle.std.specs.List.{list_any}
use Rattle.test_reach.specs.Tables.{leads_into}
use Rattle.test_reach.proofs.table.TableMachine.entry.Given as goal

abbrev pub invariant-loop-place : goal.invariant-loop-place
invariant-loop-place l = list_any (leads_into l.self.start l.frame l.initial' l.cube) (take l.place l.self.steps) ≡ false
