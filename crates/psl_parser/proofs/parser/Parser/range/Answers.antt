use Rattle.std.proofs.Common.{refl}
use Rattle.psl_grammar.specs.Productions.{range}
use Rattle.psl_parser.specs.Pieces.{ReadsRange}
use Rattle.psl_parser.proofs.Exits.{exit, made-count}
use Rattle.psl_parser.proofs.Taking.{taken, stopped}
use Rattle.psl_grammar.specs.Reading.{Reads as r, Stops as s}
use Rattle.psl_parser.proofs.parser.Parser.range.Goals as goal

pub returns-in_err-take-clause-parsed : goal.returns-in_err-take-clause-parsed
returns-in_err-take-clause-parsed c = exit ReadsRange range _ _ c.from_residual.ensures.1 (s.first (stopped c.in_err-take.ensures.took))

pub returns-in_err-low-clause-parsed : goal.returns-in_err-low-clause-parsed
returns-in_err-low-clause-parsed c = exit ReadsRange range _ _ c.from_residual-in_err-low.ensures.1 (s.next _ (taken c.in_ok-take.ensures.took) (s.first (stopped c.in_err-low.ensures.took)))

pub returns-in_err-take-2-clause-parsed : goal.returns-in_err-take-2-clause-parsed
returns-in_err-take-2-clause-parsed c = exit ReadsRange range _ _ c.from_residual-in_err-take-2.ensures.1 (s.next _ (taken c.in_ok-take.ensures.took) (s.next _ (taken c.in_ok-low.ensures.took) (s.first (stopped c.in_err-take-2.ensures.took))))

pub returns-in_err-high-clause-parsed : goal.returns-in_err-high-clause-parsed
returns-in_err-high-clause-parsed c = exit ReadsRange range _ _ c.from_residual-in_err-high.ensures.1 (s.next _ (taken c.in_ok-take.ensures.took) (s.next _ (taken c.in_ok-low.ensures.took) (s.next _ (taken c.in_ok-take-2.ensures.took) (s.first (stopped c.in_err-high.ensures.took)))))

pub returns-in_err-take-3-clause-parsed : goal.returns-in_err-take-3-clause-parsed
returns-in_err-take-3-clause-parsed c = exit ReadsRange range _ _ c.from_residual-in_err-take-3.ensures.1 (s.next _ (taken c.in_ok-take.ensures.took) (s.next _ (taken c.in_ok-low.ensures.took) (s.next _ (taken c.in_ok-take-2.ensures.took) (s.next _ (taken c.in_ok-high.ensures.took) (stopped c.in_err-take-3.ensures.took)))))

pub returns-clause-parsed : goal.returns-clause-parsed
returns-clause-parsed c = made-count ReadsRange range _ _ c.between.ensures (λ x h. record { opening = c.in_ok-take.field-0.now; low = c.in_ok-low.low.now; colon = c.in_ok-take-2.field-0.now; high = c.in_ok-high.high.now; closing = c.in_ok-take-3.field-0.now; same = h; reads = (r.both (taken c.in_ok-take.ensures.took) (r.both (taken c.in_ok-low.ensures.took) (r.both (taken c.in_ok-take-2.ensures.took) (r.both (taken c.in_ok-high.ensures.took) (taken c.in_ok-take-3.ensures.took) refl) refl) refl) refl) })
