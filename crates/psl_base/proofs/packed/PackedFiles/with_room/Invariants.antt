use Rattle.std.proofs.Common.{◌≡◌, ◌+◌, take, length}
use Rattle.psl_base.specs.Files.{bytes_of}
use Rattle.psl_base.proofs.packed.PackedFiles.with_room.Given as goal

abbrev pub invariant-loop-file : goal.invariant-loop-file
invariant-loop-file l = record {
  files : l.packed.files ≡ take l.file-index l.files;
  file_room : l.packed.file_room ≡ length l.files + l.more_files;
  byte_room : l.packed.byte_room ≡ bytes_of l.files + l.more_bytes;
}
