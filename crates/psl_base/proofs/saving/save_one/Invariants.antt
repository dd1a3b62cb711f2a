use Rattle.std.proofs.Common.{◌≡◌, ◌-◌, ◌≤◌, length, take, Some}
use Rattle.std.specs.Option.{option_map}
use Rattle.std.specs.Prelude.{string_bytes}
use Rattle.psl_base.specs.Shelf.{OnlyWrites, with_content}
use Rattle.psl_base.proofs.saving.save_one.Given as goal

abbrev pub invariant-loop-done : goal.invariant-loop-done
invariant-loop-done g l = record {
  within : l.done ≤ length l.content;
  told : (g.F.Shelf.state l.files).told
      ≡ option_map (with_content (string_bytes l.save.name) (take l.done l.content)) (g.F.Shelf.state l.initial.files).told;
  created : (g.F.Shelf.state l.files).created ≡ Some (string_bytes l.save.name);
  write_faults : (g.F.Shelf.state l.files).write_faults ≡ (g.F.Shelf.state l.initial.files).write_faults;
  only : OnlyWrites (g.F.Shelf.state l.initial.files) (g.F.Shelf.state l.files);
}

abbrev pub decreases-loop-done : goal.decreases-loop-done
decreases-loop-done g l = length l.content - l.done
