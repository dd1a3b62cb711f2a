use Rattle.std.proofs.Common.{refl}
use Rattle.psl_grammar.specs.Productions.{index}
use Rattle.psl_parser.specs.Pieces.{ReadsIndex}
use Rattle.psl_parser.proofs.Exits.{exit, made-token}
use Rattle.psl_parser.proofs.Making.{index-made}
use Rattle.psl_parser.proofs.Taking.{taken, stopped}
use Rattle.psl_grammar.specs.Reading.{Reads as r, Stops as s}
use Rattle.psl_parser.proofs.parser.Parser.index.Goals as goal

pub returns-in_err-take-clause-parsed : goal.returns-in_err-take-clause-parsed
returns-in_err-take-clause-parsed c = exit ReadsIndex index _ _ c.from_residual.ensures.1 (s.first (stopped c.in_err-take.ensures.took))

pub returns-in_err-number-clause-parsed : goal.returns-in_err-number-clause-parsed
returns-in_err-number-clause-parsed c = exit ReadsIndex index _ _ c.from_residual-in_err-number.ensures.1 (s.next _ (taken c.in_ok-take.ensures.took) (s.first (stopped c.in_err-number.ensures.took)))

pub returns-in_err-take-2-clause-parsed : goal.returns-in_err-take-2-clause-parsed
returns-in_err-take-2-clause-parsed c = exit ReadsIndex index _ _ c.from_residual-in_err-take-2.ensures.1 (s.next _ (taken c.in_ok-take.ensures.took) (s.next _ (taken c.in_ok-number.ensures.took) (stopped c.in_err-take-2.ensures.took)))

pub returns-clause-parsed : goal.returns-clause-parsed
returns-clause-parsed c = made-token ReadsIndex index _ _ c.copy.ensures (λ x h. index-made h (r.both (taken c.in_ok-take.ensures.took) (r.both (taken c.in_ok-number.ensures.took) (taken c.in_ok-take-2.ensures.took) refl) refl))
