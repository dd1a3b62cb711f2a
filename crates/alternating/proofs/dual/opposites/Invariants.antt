use Rattle.std.proofs.Common.{◌≡◌, take, map}
use Rattle.alternating_theory.specs.Construction.{opposite_obligation}
use Rattle.alternating.specs.Views.{obligations_of_code}
use Rattle.alternating.proofs.dual.opposites.Given as goal

abbrev pub invariant-loop-obligation : goal.invariant-loop-obligation
invariant-loop-obligation l = obligations_of_code l.found.items ≡ map opposite_obligation (obligations_of_code (take l.obligation-index l.obligations))
