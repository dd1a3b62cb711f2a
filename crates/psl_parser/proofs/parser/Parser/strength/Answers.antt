use Rattle.std.proofs.Common.{refl, [], ◌∷◌}
use Rattle.psl_parser.specs.Pieces.{strong, ReadsStrength}
use Rattle.psl_grammar.specs.Trees.{Tok}
use Rattle.psl_parser.proofs.Exits.{exit, made}
use Rattle.psl_parser.proofs.Forms.{yes, no}
use Rattle.psl_parser.proofs.Taking.{taken, stopped}
use Rattle.psl_grammar.specs.Reading.{Reads as r, Stops as s}
use Rattle.psl_parser.proofs.parser.Parser.strength.Goals as goal

pub returns-then-not-at-clause-parsed : goal.returns-then-not-at-clause-parsed
returns-then-not-at-clause-parsed c = record { items = []; posted = refl; unary = refl; reads = (r.without (record { holds = (no c.at.ensures c.if-not-at.true) })) }

pub returns-in_err-operator-clause-parsed : goal.returns-in_err-operator-clause-parsed
returns-in_err-operator-clause-parsed c = exit (ReadsStrength c.args.operand) strong _ _ c.from_residual.ensures.1 (s.maybe (record { holds = (yes c.at.ensures c.if-not-at.false) }) (stopped c.in_err-operator.ensures.took))

pub returns-clause-parsed : goal.returns-clause-parsed
returns-clause-parsed c = made (ReadsStrength c.args.operand) strong _ _ c.postfix.ensures (λ x h. record { items = Tok c.in_ok-operator.operator.now ∷ []; posted = h; unary = h; reads = (r.with (record { holds = (yes c.at.ensures c.if-not-at.false) }) (taken c.in_ok-operator.ensures.took)) })
