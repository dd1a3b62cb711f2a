use Rattle.std.proofs.Common.{◌∙◌}
use Rattle.psl_parser.specs.Pieces.{edged, Gave}
use Rattle.psl_grammar.specs.Trees.{atom}
use Rattle.psl_parser.proofs.Exits.{exit, made}
use Rattle.psl_parser.proofs.Making.{edge-made}
use Rattle.psl_parser.proofs.Taking.{taken, stopped}
use Rattle.psl_grammar.specs.Reading.{Stops as s}
use Rattle.psl_parser.proofs.parser.Parser.edge.Goals as goal

pub returns-in_err-word-clause-parsed : goal.returns-in_err-word-clause-parsed
returns-in_err-word-clause-parsed c = exit (Gave atom edged) edged _ _ c.from_residual.ensures.1 (s.first (stopped c.in_err-word.ensures.took))

pub returns-in_err-path-clause-parsed : goal.returns-in_err-path-clause-parsed
returns-in_err-path-clause-parsed c = exit (Gave atom edged) edged _ _ c.from_residual-in_err-path.ensures.1 (s.next _ (taken c.in_ok-word.ensures.took) (s.first c.in_err-path.ensures.parsed))

pub returns-in_err-number-clause-parsed : goal.returns-in_err-number-clause-parsed
returns-in_err-number-clause-parsed c = exit (Gave atom edged) edged _ _ c.from_residual-in_err-number.ensures.1 (s.next _ (taken c.in_ok-word.ensures.took) (s.next _ c.in_ok-path.ensures.parsed c.in_err-number.ensures.parsed))

pub returns-clause-parsed : goal.returns-clause-parsed
returns-clause-parsed c = made (Gave atom edged) edged _ _ c.edge.ensures (λ x h. let made = edge-made c.in_ok-number.number (taken c.in_ok-word.ensures.took) c.in_ok-path.ensures.parsed c.in_ok-number.ensures.parsed in record { items = made.0; same = made.1 ∙ h; reads = made.2 })
