use Rattle.std.proofs.Common.{◌≤◌, length}
use Rattle.psl_grammar.proofs.Loops.{Through}
use Rattle.psl_grammar.specs.Parts.{Sym, Statement}
use Rattle.psl_parser.specs.Pieces.{statement_items}
use Rattle.psl_parser.specs.Steps.{state}
use Rattle.psl_parser.proofs.parser.Parser.statements.Given as goal

abbrev pub invariant-loop-alloc : goal.invariant-loop-alloc
invariant-loop-alloc l = record {
  fewer : length l.self.rest.now ≤ length l.initial.self.rest.now;
  rounds : Through (Sym Statement) (state l.initial.self) (state l.self) (statement_items l.statements);
}

abbrev pub decreases-loop-alloc : goal.decreases-loop-alloc
decreases-loop-alloc l = length l.self.rest.now
