use Rattle.std.proofs.Common.{◌≡◌, ℕ, ◌+◌, ◌<◌, ◌≤◌}
use Rattle.alternating.specs.Packed.{bit}
use Rattle.vcd_reader.specs.Sampled.{atom_at}
use Rattle.wave_judge.proofs.columns.column_of.Given as goal

abbrev pub invariant-loop-place : goal.invariant-loop-place
invariant-loop-place l = (other : ℕ) → l.place ≤ other → other < 64 → bit l.column other ≡ atom_at l.recording (l.first + other) l.atom
