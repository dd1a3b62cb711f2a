use Rattle.std.proofs.Common.{refl}
use Rattle.psl_grammar.proofs.NextToken.{kind-of_one}
use Rattle.psl_parser.specs.Pieces.{starred, ReadsRepetition}
use Rattle.psl_parser.proofs.Exits.{exit, made-repetition}
use Rattle.psl_parser.proofs.Making.{repetition-made}
use Rattle.psl_parser.proofs.Taking.{taken, stopped}
use Rattle.psl_grammar.specs.Reading.{Reads as r, Stops as s}
use Rattle.psl_parser.proofs.parser.Parser.counted_repetition.Goals as goal

pub returns-in_err-opening-clause-parsed : goal.returns-in_err-opening-clause-parsed
returns-in_err-opening-clause-parsed c = exit (ReadsRepetition c.args.kind) (starred c.args.kind) _ _ c.from_residual.ensures.1 (s.first (stopped c.in_err-opening.ensures.took))

pub returns-in_err-count-clause-parsed : goal.returns-in_err-count-clause-parsed
returns-in_err-count-clause-parsed c = exit (ReadsRepetition c.args.kind) (starred c.args.kind) _ _ c.from_residual-in_err-count.ensures.1 (s.next _ (taken c.in_ok-opening.ensures.took) (s.first c.in_err-count.ensures.parsed))

pub returns-in_err-take-clause-parsed : goal.returns-in_err-take-clause-parsed
returns-in_err-take-clause-parsed c = exit (ReadsRepetition c.args.kind) (starred c.args.kind) _ _ c.from_residual-in_err-take.ensures.1 (s.next _ (taken c.in_ok-opening.ensures.took) (s.next _ c.in_ok-count.ensures.parsed (stopped c.in_err-take.ensures.took)))

pub returns-clause-parsed : goal.returns-clause-parsed
returns-clause-parsed c = made-repetition (ReadsRepetition c.args.kind) (starred c.args.kind) _ _ _ c.make_repetition.ensures (λ x h. repetition-made c.in_ok-take.field-0.now h (kind-of_one _ _ c.in_ok-opening.ensures.took.kind) (r.both (taken c.in_ok-opening.ensures.took) (r.both c.in_ok-count.ensures.parsed (taken c.in_ok-take.ensures.took) refl) refl))
