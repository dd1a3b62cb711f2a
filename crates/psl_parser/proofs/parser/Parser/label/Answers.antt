use Rattle.std.proofs.Common.{refl}
use Rattle.psl_parser.specs.Pieces.{label, ReadsLabel}
use Rattle.psl_parser.proofs.Exits.{exit, spent}
use Rattle.psl_parser.proofs.Forms.{yes, no}
use Rattle.psl_parser.proofs.Making.{label-made}
use Rattle.psl_parser.proofs.Taking.{taken, stopped}
use Rattle.psl_grammar.specs.Reading.{Reads as r, Stops as s}
use Rattle.psl_parser.proofs.parser.Parser.label.Goals as goal

pub returns-then-not-at-clause-parsed : goal.returns-then-not-at-clause-parsed
returns-then-not-at-clause-parsed c = (r.without (record { holds = (no c.at.ensures c.if-not-at.true) }))

pub returns-in_err-name-clause-parsed : goal.returns-in_err-name-clause-parsed
returns-in_err-name-clause-parsed c = exit ReadsLabel label _ _ c.from_residual.ensures.1 (s.maybe (record { holds = (yes c.at.ensures c.if-not-at.false) }) (s.first (stopped c.in_err-name.ensures.took)))

pub returns-in_err-take-clause-parsed : goal.returns-in_err-take-clause-parsed
returns-in_err-take-clause-parsed c = exit ReadsLabel label _ _ c.from_residual-in_err-take.ensures.1 (s.maybe (record { holds = (yes c.at.ensures c.if-not-at.false) }) (s.next _ (taken c.in_ok-name.ensures.took) (stopped c.in_err-take.ensures.took)))

pub returns-in_err-name-2-clause-parsed : goal.returns-in_err-name-2-clause-parsed
returns-in_err-name-2-clause-parsed c = spent ReadsLabel label _ _ _ _ c.from_residual-in_err-name-2.ensures.1 c.in_err-name-2.ensures

pub returns-clause-parsed : goal.returns-clause-parsed
returns-clause-parsed c = label-made c.in_ok-name-2.ensures (r.with (record { holds = (yes c.at.ensures c.if-not-at.false) }) (r.both (taken c.in_ok-name.ensures.took) (taken c.in_ok-take.ensures.took) refl))
