use Rattle.std.proofs.Common.{◌≡◌, fold, take}
use Rattle.blif_model.specs.Hashes.{with_byte}
use Rattle.blif_model.proofs.names.hash_of.Given as goal

abbrev pub invariant-loop-byte : goal.invariant-loop-byte
invariant-loop-byte l = l.hash ≡ fold with_byte 0 (take l.byte-index l.name)
