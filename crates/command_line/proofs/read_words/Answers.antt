use Rattle.std.proofs.Common.{map, string_bytes}
use Rattle.std.proofs.lemmas.Result.{IfErr-weaker, err_from_is_err_and}
use Rattle.command_line.proofs.Meanings.{no_command, refused_unnumbered}
use Rattle.command_line.proofs.read_words.Goals as goal

pub returns-in_err-matches-clause-cause : goal.returns-in_err-matches-clause-cause
returns-in_err-matches-clause-cause c =
    let p = err_from_is_err_and c.from_residual.result c.from_residual.ensures.1 in
    rw (p.1, p.2) (λ usage. c.in_err-matches.ensures.usage usage c.args.most_samples)

pub returns-in_err-matches-clause-usage : goal.returns-in_err-matches-clause-usage
returns-in_err-matches-clause-usage c =
    let p = err_from_is_err_and c.from_residual.result c.from_residual.ensures.1 in
    rw (p.1, p.2) (λ usage. no_command _ _ (c.in_err-matches.ensures.usage usage c.args.most_samples))

pub returns-clause-cause : goal.returns-clause-cause
returns-clause-cause c =
    IfErr-weaker c.read_values.result _ _
    (λ fault none _. refused_unnumbered c.args.most_samples (map string_bytes c.args.words.now) c.in-Some-kind_named.kind _ c.in_ok-matches.ensures.taken
    c.in_ok-matches.ensures.given none) c.read_values.ensures.usage
