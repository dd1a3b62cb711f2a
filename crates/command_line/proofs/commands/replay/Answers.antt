use Rattle.std.proofs.Common.{refl, arith, []}
use Rattle.command_line.specs.Clap.{required}
use Rattle.command_line.proofs.commands.replay.Goals as goal

pub word-requires : goal.word-requires
word-requires c = c.requires 0 (required []) (omega arith) refl

pub word-requires-2 : goal.word-requires-2
word-requires-2 c = c.requires 1 (required []) (omega arith) refl

pub word-requires-3 : goal.word-requires-3
word-requires-3 c = c.requires 2 (required []) (omega arith) refl
