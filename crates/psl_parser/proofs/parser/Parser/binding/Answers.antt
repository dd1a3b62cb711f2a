use Rattle.std.proofs.Common.{refl}
use Rattle.psl_parser.specs.Pieces.{binding, ReadsBinding}
use Rattle.psl_parser.proofs.Exits.{exit}
use Rattle.psl_parser.proofs.Forms.{yes, no}
use Rattle.psl_parser.proofs.Taking.{taken, stopped}
use Rattle.psl_grammar.specs.Reading.{Reads as r, Stops as s}
use Rattle.psl_parser.proofs.parser.Parser.binding.Goals as goal

pub returns-then-not-at-clause-parsed : goal.returns-then-not-at-clause-parsed
returns-then-not-at-clause-parsed c = (r.without (record { holds = (no c.at.ensures c.if-not-at.true) }))

pub returns-in_err-take-clause-parsed : goal.returns-in_err-take-clause-parsed
returns-in_err-take-clause-parsed c = exit ReadsBinding binding _ _ c.from_residual.ensures.1 (s.maybe (record { holds = (yes c.at.ensures c.if-not-at.false) }) (s.first (stopped c.in_err-take.ensures.took)))

pub returns-in_err-path-clause-parsed : goal.returns-in_err-path-clause-parsed
returns-in_err-path-clause-parsed c = exit ReadsBinding binding _ _ c.from_residual-in_err-path.ensures.1 (s.maybe (record { holds = (yes c.at.ensures c.if-not-at.false) }) (s.next _ (taken c.in_ok-take.ensures.took) (s.first c.in_err-path.ensures.parsed)))

pub returns-in_err-take-2-clause-parsed : goal.returns-in_err-take-2-clause-parsed
returns-in_err-take-2-clause-parsed c = exit ReadsBinding binding _ _ c.from_residual-in_err-take-2.ensures.1 (s.maybe (record { holds = (yes c.at.ensures c.if-not-at.false) }) (s.next _ (taken c.in_ok-take.ensures.took) (s.next _ c.in_ok-path.ensures.parsed (stopped c.in_err-take-2.ensures.took))))

pub returns-clause-parsed : goal.returns-clause-parsed
returns-clause-parsed c = record { opening = c.in_ok-take.field-0.now; closing = c.in_ok-take-2.field-0.now; reads = (r.with (record { holds = (yes c.at.ensures c.if-not-at.false) }) (r.both (taken c.in_ok-take.ensures.took) (r.both c.in_ok-path.ensures.parsed (taken c.in_ok-take-2.ensures.took) refl) refl)) }
