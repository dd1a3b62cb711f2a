use Rattle.std.proofs.Common.{◌≡◌, ◌+◌, ◌-◌, ◌^◌, min, take}
use Rattle.psl_base.specs.Files.{bytes_of}
use Rattle.psl_base.proofs.packed.byte_size.Given as goal

abbrev pub invariant-loop-file : goal.invariant-loop-file
invariant-loop-file l = l.size ≡ min (bytes_of (take l.file-index l.files) + l.more) (2 ^ 64 - 1)
