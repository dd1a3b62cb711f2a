use Rattle.std.proofs.Common.{◌≡◌, map, take}
use Rattle.commands.proofs.show.lines_of.Given as goal
use Rattle.commands.specs.Waves.{line_of}

abbrev pub invariant-loop-directive : goal.invariant-loop-directive
invariant-loop-directive l = l.lines ≡ map (line_of l.names) (take l.directive-index l.directives)
