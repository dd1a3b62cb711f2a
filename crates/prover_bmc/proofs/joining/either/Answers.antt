use Rattle.std.proofs.Common.{rules, w32}
use mir.Val.{SFits}
use Rattle.std.proofs.lemmas.Int.{to_z-of_z}
use Rattle.prover_bmc.proofs.Laters.{later-either}
use Rattle.prover_bmc.proofs.joining.either.Goals as goal

pub returns-clause-later : goal.returns-clause-later
returns-clause-later c =
    let first : SFits w32 c.args.first = search rules in
    let second : SFits w32 c.args.second = search rules in
    let adds = simp to_z-of_z at c.in_ok-either.ensures in
    later-either c.args.builder.now c.or.new.self c.args.first c.args.second c.in_ok-either.either adds
