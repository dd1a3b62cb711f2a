use Rattle.psl_grammar.specs.Parts.{Quoted}
use Rattle.psl_parser.specs.Pieces.{ReadsPlain}
use Rattle.psl_parser.proofs.Exits.{exit, made-repetition}
use Rattle.psl_parser.proofs.Making.{plain-made}
use Rattle.psl_parser.proofs.Taking.{taken, stopped}
use Rattle.psl_lexer.specs.declared.kind.TokenKind.TheVariants as kinds
use Rattle.psl_parser.proofs.parser.Parser.plain_repetition.Goals as goal

pub returns-in_err-opening-clause-parsed : goal.returns-in_err-opening-clause-parsed
returns-in_err-opening-clause-parsed c = exit ReadsPlain (Quoted kinds.PlusRepeat) _ _ c.from_residual.ensures.1 (stopped c.in_err-opening.ensures.took)

pub returns-clause-parsed : goal.returns-clause-parsed
returns-clause-parsed c = made-repetition ReadsPlain (Quoted kinds.PlusRepeat) _ _ _ c.make_repetition.ensures (λ x h. plain-made h (taken c.in_ok-opening.ensures.took))
