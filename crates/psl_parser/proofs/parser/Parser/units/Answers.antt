use Rattle.std.proofs.Common.{arith}
use Rattle.psl_grammar.proofs.Loops.{through-stop, through-end}
use Rattle.psl_grammar.specs.Surface.{unit_node}
use Rattle.psl_grammar.specs.Parts.{Sym}
use Rattle.psl_parser.specs.Pieces.{some_units, ReadsUnits}
use Rattle.psl_grammar.specs.Trees.{Tree}
use Rattle.psl_parser.proofs.Exits.{exit}
use Rattle.psl_parser.proofs.Forms.{yes, no}
use Rattle.psl_parser.proofs.Making.{rounds-start, pushed}
use Rattle.psl_grammar.specs.Reading.{Stops as s}
use Rattle.psl_grammar.specs.Parts as P
use Rattle.psl_parser.proofs.parser.Parser.units.Goals as goal

pub loop-alloc-init : goal.loop-alloc-init
loop-alloc-init c = record { fewer = omega arith; rounds = rounds-start (λ x. Tree (unit_node x)) (Sym P.Vunit) _ c.new-units.result c.new-units.ensures }

pub returns-in_err-unit-clause-parsed : goal.returns-in_err-unit-clause-parsed
returns-in_err-unit-clause-parsed c = exit ReadsUnits some_units _ _ c.from_residual.ensures.1 (through-stop _ c.loop-alloc.invariant.rounds (record { holds = (yes c.at.ensures c.loop-alloc-test.true) }) c.in_err-unit.ensures.parsed)

pub returns-in_err-push-clause-parsed : goal.returns-in_err-push-clause-parsed
returns-in_err-push-clause-parsed c = exit ReadsUnits some_units {old = _} {new = _} _ _ c.from_residual-in_err-push.ensures.1 s.memory

pub loop-alloc-preserved : goal.loop-alloc-preserved
loop-alloc-preserved c = record { fewer = omega arith; rounds = pushed (λ x. Tree (unit_node x)) c.loop-alloc.units c.loop-alloc.invariant.rounds (record { holds = (yes c.at.ensures c.loop-alloc-test.true) }) c.in_ok-unit.ensures.parsed c.in_ok-push.ensures.ok }

pub returns-clause-parsed : goal.returns-clause-parsed
returns-clause-parsed c = through-end c.loop-alloc.invariant.rounds (record { holds = (no c.at.ensures c.loop-alloc-test.false) })
