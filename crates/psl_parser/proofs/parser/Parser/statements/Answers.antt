use Rattle.std.proofs.Common.{arith}
use Rattle.psl_grammar.proofs.Loops.{through-stop, through-end}
use Rattle.psl_grammar.specs.Surface.{statement_node}
use Rattle.psl_grammar.specs.Parts.{Many, Sym}
use Rattle.psl_parser.specs.Pieces.{ReadsStatements}
use Rattle.psl_grammar.specs.Trees.{Tree}
use Rattle.psl_parser.proofs.Exits.{exit}
use Rattle.psl_parser.proofs.Forms.{yes, no}
use Rattle.psl_parser.proofs.Making.{rounds-start, pushed}
use Rattle.psl_grammar.specs.Reading.{Stops as s}
use Rattle.psl_grammar.specs.Parts as P
use Rattle.psl_parser.proofs.parser.Parser.statements.Goals as goal

pub loop-alloc-init : goal.loop-alloc-init
loop-alloc-init c = record { fewer = omega arith; rounds = rounds-start (λ x. Tree (statement_node x)) (Sym P.Statement) _ c.new-statements.result c.new-statements.ensures }

pub returns-in_err-statement-clause-parsed : goal.returns-in_err-statement-clause-parsed
returns-in_err-statement-clause-parsed c = exit ReadsStatements (Many (Sym P.Statement)) _ _ c.from_residual.ensures.1 (through-stop _ c.loop-alloc.invariant.rounds (record { holds = (yes c.at_statement.ensures c.loop-alloc-test.true) }) c.in_err-statement.ensures.parsed)

pub returns-in_err-push-clause-parsed : goal.returns-in_err-push-clause-parsed
returns-in_err-push-clause-parsed c = exit ReadsStatements (Many (Sym P.Statement)) {old = _} {new = _} _ _ c.from_residual-in_err-push.ensures.1 s.memory

pub loop-alloc-preserved : goal.loop-alloc-preserved
loop-alloc-preserved c = record { fewer = omega arith; rounds = pushed (λ x. Tree (statement_node x)) c.loop-alloc.statements c.loop-alloc.invariant.rounds (record { holds = (yes c.at_statement.ensures c.loop-alloc-test.true) }) c.in_ok-statement.ensures.parsed c.in_ok-push.ensures.ok }

pub returns-clause-parsed : goal.returns-clause-parsed
returns-clause-parsed c = through-end c.loop-alloc.invariant.rounds (record { holds = (no c.at_statement.ensures c.loop-alloc-test.false) })
