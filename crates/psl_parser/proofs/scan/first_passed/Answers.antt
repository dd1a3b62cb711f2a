use Rattle.std.proofs.Common.{sym, ◌∙◌, ap, take, arith}
use Rattle.psl_parser.specs.Statements.{state_of}
use Rattle.psl_parser.specs.Counted.{counted}
use Rattle.psl_parser.proofs.Placing.{state-more, none-more}
use Rattle.psl_parser.proofs.scan.first_passed.Goals as goal

pub loop-index-preserved : goal.loop-index-preserved
loop-index-preserved c =
    let step = c.in-Ok.ensures.step (state_of (take c.loop-index.index c.args.tokens.now)) c.loop-index.invariant.state in
    record {
      state = step.0 ∙ ap counted (sym (state-more c.args.tokens.now c.loop-index.index c.index-tokens-index.result (omega arith) c.index-tokens-index.is));
      small = c.in-Ok.ensures.small;
      none = none-more c.args.tokens.now c.loop-index.index c.index-tokens-index.result (omega arith) c.index-tokens-index.is c.loop-index.invariant.none step.1;
    }

pub returns : goal.returns
returns c = λ other limit l. c.loop-index.invariant.none other limit (omega arith)
