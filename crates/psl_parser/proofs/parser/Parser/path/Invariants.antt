use Rattle.std.proofs.Common.{◌≤◌, length}
use Rattle.psl_grammar.specs.Parts.{Quoted, ◌~◌}
use Rattle.psl_lexer.specs.declared.kind.TokenKind.TheVariants as kinds
use Rattle.psl_parser.specs.Steps.{state}
use Rattle.psl_parser.proofs.Rounds.{Dotted}
use Rattle.psl_parser.proofs.parser.Parser.path.Given as goal

abbrev pub invariant-loop-alloc : goal.invariant-loop-alloc
invariant-loop-alloc l = record {
  fewer : length l.self.rest.now ≤ length l.initial.self.rest.now;
  rounds : Dotted (Quoted kinds.Dot ~ Quoted kinds.Name) (state l.initial.self) (state l.self) l.initial.names l.names;
}

abbrev pub decreases-loop-alloc : goal.decreases-loop-alloc
decreases-loop-alloc l = length l.self.rest.now
