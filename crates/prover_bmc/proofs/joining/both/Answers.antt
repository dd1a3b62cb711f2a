use Rattle.std.proofs.Common.{rules, w32}
use mir.Val.{SFits}
use Rattle.std.proofs.lemmas.Int.{to_z-of_z}
use Rattle.prover_bmc.proofs.Laters.{later-both}
use Rattle.prover_bmc.proofs.joining.both.Goals as goal

pub returns-clause-later : goal.returns-clause-later
returns-clause-later c =
    let first : SFits w32 c.args.first = search rules in
    let second : SFits w32 c.args.second = search rules in
    let adds = simp to_z-of_z at c.in_ok-both.ensures in
    later-both c.args.builder.now c.and.new.self c.args.first c.args.second c.in_ok-both.both adds
