use Rattle.std.proofs.Common.{◌≡◌, ℕ, ◌<◌, length, drop}
use Rattle.std.specs.Prelude.{slice_get, slice_index}
use Rattle.psl_tree.specs.Names.{first_name}
use Rattle.trace.proofs.names.first_places.Given as goal

abbrev pub invariant-loop-place : goal.invariant-loop-place
invariant-loop-place l = record {
  length : length l.first.items ≡ l.fn.signals;
  first : (signal : ℕ) → signal < l.fn.signals → first_name (drop l.place l.fn.names) signal ≡ slice_get l.fn.names (slice_index l.first.items signal);
}
