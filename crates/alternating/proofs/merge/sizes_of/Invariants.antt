use Rattle.std.proofs.Common.{◌≡◌, take}
use Rattle.alternating.specs.Sizes.{delta_sizes}
use Rattle.alternating.specs.Views.{obligations_of_code}
use Rattle.alternating.proofs.merge.sizes_of.Given as goal

abbrev pub invariant-loop-obligation : goal.invariant-loop-obligation
invariant-loop-obligation l = l.sizes.items ≡ delta_sizes (obligations_of_code (take l.obligation-index l.obligations))
