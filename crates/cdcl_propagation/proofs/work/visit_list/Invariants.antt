use Rattle.std.proofs.Common.{◌-◌, ◌≤◌, length, take, drop}
use Rattle.cdcl_propagation.specs.State.{HasReasons, Extends}
use Rattle.cdcl_propagation.specs.Watching.{IsVisiting}
use Rattle.cdcl_propagation.proofs.work.visit_list.Given as goal

abbrev pub invariant-loop-next : goal.invariant-loop-next
invariant-loop-next l = record {
  visiting : IsVisiting l.clauses l.pairs l.lists l.trail l.head l.literal (take l.kept l.list) (drop l.next l.list);
  reasons : HasReasons l.clauses l.trail;
  grown : Extends l.initial.trail l.trail;
  order : l.kept ≤ l.next;
  within : l.next ≤ length l.list;
}

abbrev pub decreases-loop-next : goal.decreases-loop-next
decreases-loop-next l = length l.initial.list - l.next
