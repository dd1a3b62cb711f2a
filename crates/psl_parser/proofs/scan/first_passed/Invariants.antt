use Rattle.std.proofs.Common.{◌≡◌, take}
use Rattle.psl_parser.specs.Statements.{state_of}
use Rattle.psl_parser.specs.Limits.{NonePasses}
use Rattle.psl_parser.specs.Counted.{counted, IsSmall}
use Rattle.psl_parser.proofs.scan.first_passed.Given as goal

abbrev pub invariant-loop-index : goal.invariant-loop-index
invariant-loop-index l = record {
  state : l.state ≡ counted (state_of (take l.index l.tokens));
  small : IsSmall l.state;
  none : NonePasses l.tokens l.index;
}
