use Rattle.psl_parser.specs.Parsing.{IsParsed, IsParseFault}
use Rattle.commands.proofs.Reasons.{parse-text}
use Rattle.commands.proofs.Staging.{told-fails}
use Rattle.commands.proofs.inputs.tree_of.Goals as goal
use Rattle.commands.specs.Diagnostics.{parse_diagnostic}

pub returns-in-Err : goal.returns-in-Err
returns-in-Err c =
    told-fails c.args.name.now (parse_diagnostic c.args.text.now c.args.tokens.now) (IsParsed c.args.tokens.now) (IsParseFault c.args.tokens.now) c.in-Err.fault
    c.fault_in.result c.parse_diagnostic.result c.in-Err.ensures.fault (parse-text c.args.text.now c.args.tokens.now c.in-Err.fault) c.parse_diagnostic.ensures c.fault_in.ensures
