use Rattle.std.proofs.Common.{[], ◌∷◌}
use Rattle.std.proofs.lemmas.Result.{err_from_is_err_and}
use Rattle.commands.proofs.Staging.{reading-first, reading-then}
use Rattle.commands.proofs.inputs.parse_text.Goals as goal
use Rattle.commands.specs.Waves.{TokensReading, TreeReading}

pub returns-in_err-tokens : goal.returns-in_err-tokens
returns-in_err-tokens c =
    let p = err_from_is_err_and c.from_residual.result c.from_residual.ensures.1 in
    rw (p.1, p.2) (reading-first (TokensReading c.args.name.now c.args.text.now) (TreeReading c.args.name.now c.args.text.now) (c.args.name.now ∷ []) _ c.in_err-tokens.ensures)

pub returns : goal.returns
returns c =
    reading-then (TokensReading c.args.name.now c.args.text.now) (TreeReading c.args.name.now c.args.text.now) (c.args.name.now ∷ []) c.in_ok-tokens.tokens c.tree_of.result
    c.in_ok-tokens.ensures c.tree_of.ensures
