use Rattle.std.proofs.Common.{◌≡◌, drop, None}
use Rattle.psl_base.specs.Files.{content_of}
use Rattle.psl_base.proofs.packed.PackedFiles.find.Given as goal

abbrev pub invariant-loop-place : goal.invariant-loop-place
invariant-loop-place l = content_of (drop l.place l.self.files) l.name ≡ None
