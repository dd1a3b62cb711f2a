use Rattle.std.proofs.Common.{◌≡◌, map, take}
use Rattle.gates_covers.specs.Greedy.{cover_of}
use Rattle.gates_covers.proofs.covers.covers_of.Given as goal

abbrev pub invariant-loop-table : goal.invariant-loop-table
invariant-loop-table l = l.covers ≡ map cover_of (take l.table-index l.tables)
