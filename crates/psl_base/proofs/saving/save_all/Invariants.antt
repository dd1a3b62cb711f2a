use Rattle.std.proofs.Common.{◌≡◌, [], map, take}
use Rattle.psl_base.specs.Shelf.{OnlyWrites}
use Rattle.psl_base.proofs.saving.save_all.Given as goal
use Rattle.psl_base.specs.Saves.{SavesAll, file_of}

abbrev pub invariant-loop-save : goal.invariant-loop-save
invariant-loop-save g l = record {
  saved : SavesAll (map file_of (take l.save-index l.saves)) (g.F.Shelf.state l.fn.files) (g.F.Shelf.state l.files);
  only : OnlyWrites (g.F.Shelf.state l.fn.files) (g.F.Shelf.state l.files);
  none : l.saves ≡ [] → g.F.Shelf.state l.files ≡ g.F.Shelf.state l.fn.files;
}
