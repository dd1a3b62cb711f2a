use Rattle.std.proofs.Common.{List, ℤ, Bor}
use Rattle.std.specs.Option.{option_map}
use Rattle.alternating.specs.Views.{positive_of}
use Rattle.prover_bmc.proofs.Laters.{later-combination}
use Rattle.prover_bmc.proofs.dues.met_at.Goals as goal

pub returns-clause-later : goal.returns-clause-later
returns-clause-later c =
    later-combination c.args.builder.now c.combination_of.new.builder (option_map (λ (l : Bor (List ℤ)). l.now) c.args.place.before)
    c.args.place.now.now c.args.place.later.now (positive_of c.args.delta.now) c.in_ok-met.met c.in_ok-met.ensures
