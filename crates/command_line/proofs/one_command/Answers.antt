use Rattle.command_line.proofs.Meanings.{no_command, numbers_in_range, one_meaning}
use Rattle.command_line.proofs.one_command.Goals as goal

pub returns : goal.returns
returns c = record { one = one_meaning; refused = no_command; ranges = numbers_in_range }
