use Rattle.std.proofs.Common.{refl, arith, []}
use Rattle.command_line.specs.Clap.{required}
use Rattle.command_line.proofs.commands.show.Goals as goal

pub word-unit-requires : goal.word-unit-requires
word-unit-requires c = c.requires 0 (required []) (omega arith) refl

pub word-names-requires : goal.word-names-requires
word-names-requires c = c.requires 1 (required []) (omega arith) refl
