use Rattle.std.proofs.Common.{◌≡◌, ◌∙◌, ap, fold, arith, take, take_all}
use Rattle.blif_model.specs.Hashes.{hash_of, with_byte}
use Rattle.blif_model.proofs.names.hash_of.Goals as goal

pub returns : goal.returns
unfolding hash_of
returns c =
    let all : take c.loop-byte.byte-index c.args.name.now ≡ c.args.name.now = take_all c.loop-byte.byte-index c.args.name.now (omega arith) in
    c.loop-byte.invariant ∙ ap (fold with_byte 0) all
