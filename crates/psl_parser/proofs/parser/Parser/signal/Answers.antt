use Rattle.std.proofs.Common.{◌∙◌}
use Rattle.psl_parser.specs.Pieces.{signal, Gave}
use Rattle.psl_grammar.specs.Trees.{atom}
use Rattle.psl_parser.proofs.Exits.{exit, made}
use Rattle.psl_parser.proofs.Making.{signal-made}
use Rattle.psl_grammar.specs.Reading.{Stops as s}
use Rattle.psl_parser.proofs.parser.Parser.signal.Goals as goal

pub returns-in_err-path-clause-parsed : goal.returns-in_err-path-clause-parsed
returns-in_err-path-clause-parsed c = exit (Gave atom signal) signal _ _ c.from_residual.ensures.1 (s.first c.in_err-path.ensures.parsed)

pub returns-in_err-number-clause-parsed : goal.returns-in_err-number-clause-parsed
returns-in_err-number-clause-parsed c = exit (Gave atom signal) signal _ _ c.from_residual-in_err-number.ensures.1 (s.next _ c.in_ok-path.ensures.parsed c.in_err-number.ensures.parsed)

pub returns-clause-parsed : goal.returns-clause-parsed
returns-clause-parsed c = made (Gave atom signal) signal _ _ c.signal.ensures (λ x h. let read = signal-made c.in_ok-number.number c.in_ok-path.ensures.parsed c.in_ok-number.ensures.parsed in record { items = read.0; same = read.1 ∙ h; reads = read.2 })
