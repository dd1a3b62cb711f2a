-- A command of `clap` that was made argument by argument.
use Rattle.std.specs.Prelude.{◌≡◌, ℕ, true, false, List, [], is_some}
use Rattle.std.specs.List.{All}
use Rattle.clap.specs.Built.{AddsArg, AddsInTurn}
use Rattle.clap.specs.Facts.{args_of, groups_of}
use Rattle.clap.specs.Simple.{app_of}
use Rattle.clap.specs.Walk.{Rule}
use Rattle.clap.specs.declared.builder.arg.Arg.{Arg}
use Rattle.clap.specs.declared.builder.command.Command.{Command}
use Rattle.clap.specs.declared.builder.command.Command.TheViews.{out-Command}
use Rattle.command_line.specs.Clap.{app}
use Rattle.command_line.specs.Commands.{Values}

-- the command of this name got these arguments one after the other, and has no others
pub record IsMadeOf (name : List ℕ) (args : List Arg) (command : Command) : Type 0 where
  pub start : Command
  pub chain : AddsInTurn AddsArg start args command
  pub bare : app_of start ≡ app name []
  pub no_args : args_of start ≡ []
  pub no_groups : groups_of start ≡ []
  pub no_globals : (out-Command start).has_globals ≡ false
  pub no_negation : (out-Command start).subcommand_negates_reqs ≡ false

-- the words that have to be there are given
abbrev pub HasRequired : List Rule → Values → Type 0
HasRequired rules values = All (λ rule. rule.required ≡ true → is_some (values rule.id) ≡ true) rules
