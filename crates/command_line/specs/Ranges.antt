-- The ranges of the numbers of commands.
use Rattle.std.specs.Prelude.{◌≤◌, ◌<◌, ◌^◌, ℕ}
use Rattle.command_line.specs.Commands.{Meaning}
use Rattle.command_line.specs.Commands.Meaning.{wave, gen, show, show_netlist, prove, check, replay}
use Rattle.command_line.specs.declared.Limits.{Limits}

-- limits that `prove` takes
pub record AreInRange (limits : Limits) : Type 0 where
  pub some_depth : 1 ≤ limits.depth
  pub depth : limits.depth ≤ 1000
  pub visits : limits.visits ≤ 16
  pub some_steps : 1 ≤ limits.steps
  pub steps : limits.steps ≤ 10000000

-- the numbers of a command are in their ranges
abbrev pub IsInRange : ℕ → Meaning → Type 0
IsInRange most (wave unit recording unknown points) = Unit {0}
IsInRange most (gen seed samples) = (seed < 2 ^ 31) × (1 ≤ samples) × (samples ≤ most)
IsInRange most (show unit names) = Unit {0}
IsInRange most (show_netlist unit netlist) = Unit {0}
IsInRange most (prove unit netlist limits evidence) = AreInRange limits × (1 ≤ evidence.loops) × (evidence.loops ≤ 16)
IsInRange most (check unit netlist number certificate) = (1 ≤ number) × (number < 2 ^ 32)
IsInRange most (replay unit netlist recording) = Unit {0}
