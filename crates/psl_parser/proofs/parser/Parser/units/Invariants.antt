use Rattle.std.proofs.Common.{◌≤◌, length}
use Rattle.psl_grammar.proofs.Loops.{Through}
use Rattle.psl_grammar.specs.Parts.{Sym, Vunit}
use Rattle.psl_parser.specs.Pieces.{unit_items}
use Rattle.psl_parser.specs.Steps.{state}
use Rattle.psl_parser.proofs.parser.Parser.units.Given as goal

abbrev pub invariant-loop-alloc : goal.invariant-loop-alloc
invariant-loop-alloc l = record {
  fewer : length l.self.rest.now ≤ length l.initial.self.rest.now;
  rounds : Through (Sym Vunit) (state l.initial.self) (state l.self) (unit_items l.units);
}

abbrev pub decreases-loop-alloc : goal.decreases-loop-alloc
decreases-loop-alloc l = length l.self.rest.now
