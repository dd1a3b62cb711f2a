use Rattle.std.proofs.Common.{subst}
use Rattle.std.proofs.lemmas.Result.{IfErr-weaker, IfOk-weaker}
use Rattle.clap.specs.Words.{first_value, found_of}
use Rattle.command_line.specs.Chains.{HasRequired}
use Rattle.command_line.specs.Kinds.{rules_of}
use Rattle.command_line.specs.declared.kinds.Kind.{Kind}
use Rattle.command_line.proofs.commands.read_values.Goals as goal

pub prove-requires : goal.prove-requires
prove-requires c =
    subst (λ (kind : Kind). HasRequired (rules_of kind) (first_value (found_of c.args.matches.now))) c.in-Prove.is c.requires

pub returns-in-Wave-clause-command : goal.returns-in-Wave-clause-command
returns-in-Wave-clause-command c =
    rw c.in-Wave.is (IfOk-weaker c.wave.result _ _ (λ command is. is c.args.most_samples) c.wave.ensures.command)

pub returns-in-Wave-clause-usage : goal.returns-in-Wave-clause-usage
returns-in-Wave-clause-usage c =
    rw c.in-Wave.is (IfErr-weaker c.wave.result _ _ (λ fault is. is c.args.most_samples) c.wave.ensures.usage)

pub returns-in-Show-clause-command : goal.returns-in-Show-clause-command
returns-in-Show-clause-command c = rw c.in-Show.is (c.show.ensures c.args.most_samples)

pub returns-in-Prove-clause-command : goal.returns-in-Prove-clause-command
returns-in-Prove-clause-command c =
    rw c.in-Prove.is (IfOk-weaker c.prove.result _ _ (λ command is. is c.args.most_samples) c.prove.ensures.command)

pub returns-in-Prove-clause-usage : goal.returns-in-Prove-clause-usage
returns-in-Prove-clause-usage c =
    rw c.in-Prove.is (IfErr-weaker c.prove.result _ _ (λ fault is. is c.args.most_samples) c.prove.ensures.usage)

pub returns-in-Check-clause-command : goal.returns-in-Check-clause-command
returns-in-Check-clause-command c =
    rw c.in-Check.is (IfOk-weaker c.check.result _ _ (λ command is. is c.args.most_samples) c.check.ensures.command)

pub returns-in-Check-clause-usage : goal.returns-in-Check-clause-usage
returns-in-Check-clause-usage c =
    rw c.in-Check.is (IfErr-weaker c.check.result _ _ (λ fault is. is c.args.most_samples) c.check.ensures.usage)

pub returns-in-Replay-clause-command : goal.returns-in-Replay-clause-command
returns-in-Replay-clause-command c = rw c.in-Replay.is (c.replay.ensures c.args.most_samples)
