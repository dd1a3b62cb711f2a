use Rattle.psl_lexer.specs.Faults.{IsFirstFault}
use Rattle.psl_lexer.specs.Lexed.{IsLexed}
use Rattle.commands.proofs.Reasons.{lex-text}
use Rattle.commands.proofs.Staging.{told-fails}
use Rattle.commands.proofs.inputs.tokens_of.Goals as goal
use Rattle.commands.specs.Diagnostics.{lex_diagnostic}

pub returns-in-Err : goal.returns-in-Err
returns-in-Err c =
    told-fails c.args.name.now lex_diagnostic (IsLexed c.args.text.now) (IsFirstFault c.args.text.now) c.in-Err.fault c.fault_in.result c.lex_diagnostic.result
    c.in-Err.ensures.fault (lex-text c.in-Err.fault) c.lex_diagnostic.ensures c.fault_in.ensures
