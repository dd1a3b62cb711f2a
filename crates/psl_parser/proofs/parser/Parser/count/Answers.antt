use Rattle.std.proofs.Common.{refl}
use Rattle.psl_grammar.specs.Parts.{Sym}
use Rattle.psl_parser.specs.Pieces.{ReadsCount}
use Rattle.psl_parser.proofs.Exits.{exit, made-count}
use Rattle.psl_parser.proofs.Forms.{yes, no, node}
use Rattle.psl_parser.proofs.Taking.{taken, stopped}
use Rattle.psl_grammar.specs.Reading.{Reads as r, Stops as s}
use Rattle.psl_grammar.specs.Parts as P
use Rattle.psl_parser.proofs.parser.Parser.count.Goals as goal

pub returns-in_err-low-clause-parsed : goal.returns-in_err-low-clause-parsed
returns-in_err-low-clause-parsed c = exit ReadsCount (Sym P.Count) _ _ c.from_residual.ensures.1 (s.symbol (s.first (stopped c.in_err-low.ensures.took)))

pub returns-then-not-at-clause-parsed : goal.returns-then-not-at-clause-parsed
returns-then-not-at-clause-parsed c = made-count ReadsCount (Sym P.Count) _ _ c.times.ensures (λ x h. (r.symbol (r.both (taken c.in_ok-low.ensures.took) (r.without (record { holds = (no c.at.ensures c.if-not-at.true) })) refl) (node h)))

pub returns-in_err-take-clause-parsed : goal.returns-in_err-take-clause-parsed
returns-in_err-take-clause-parsed c = exit ReadsCount (Sym P.Count) _ _ c.from_residual-in_err-take.ensures.1 (s.symbol (s.next _ (taken c.in_ok-low.ensures.took) (s.maybe (record { holds = (yes c.at.ensures c.if-not-at.false) }) (s.first (stopped c.in_err-take.ensures.took)))))

pub returns-in_err-high-clause-parsed : goal.returns-in_err-high-clause-parsed
returns-in_err-high-clause-parsed c = exit ReadsCount (Sym P.Count) _ _ c.from_residual-in_err-high.ensures.1 (s.symbol (s.next _ (taken c.in_ok-low.ensures.took) (s.maybe (record { holds = (yes c.at.ensures c.if-not-at.false) }) (s.next _ (taken c.in_ok-take.ensures.took) (stopped c.in_err-high.ensures.took)))))

pub returns-clause-parsed : goal.returns-clause-parsed
returns-clause-parsed c = made-count ReadsCount (Sym P.Count) _ _ c.between.ensures (λ x h. (r.symbol (r.both (taken c.in_ok-low.ensures.took) (r.with (record { holds = (yes c.at.ensures c.if-not-at.false) }) (r.both (taken c.in_ok-take.ensures.took) (taken c.in_ok-high.ensures.took) refl)) refl) (node h)))
