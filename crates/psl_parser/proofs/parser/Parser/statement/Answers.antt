use Rattle.std.proofs.Common.{refl}
use Rattle.psl_grammar.specs.Surface.{statement_node}
use Rattle.psl_grammar.specs.Parts.{Sym}
use Rattle.psl_parser.specs.Pieces.{ReadsDirective}
use Rattle.psl_parser.proofs.Exits.{exit, pass, tree_by}
use Rattle.psl_parser.proofs.Forms.{yes, no}
use Rattle.psl_parser.proofs.Making.{label-some, labelled}
use Rattle.psl_parser.proofs.Taking.{chosen, other}
use Rattle.psl_grammar.specs.Reading.{Reads as r, Stops as s}
use Rattle.psl_grammar.specs.Parts as P
use Rattle.psl_parser.proofs.parser.Parser.statement.Goals as goal

pub returns-in_err-label-clause-parsed : goal.returns-in_err-label-clause-parsed
returns-in_err-label-clause-parsed c = exit (tree_by statement_node P.Statement) (Sym P.Statement) _ _ c.from_residual.ensures.1 (s.symbol (s.left (chosen refl (yes c.at_directive.ensures c.if-at_directive.true)) (s.first c.in_err-label.ensures.parsed)))

pub returns-in_ok-label-clause-parsed : goal.returns-in_ok-label-clause-parsed
returns-in_ok-label-clause-parsed c = pass (ReadsDirective c.in_ok-label.label) (tree_by statement_node P.Statement) (Sym P.Directive) (Sym P.Statement) _ _ _ _ c.directive.ensures.parsed (λ x h. labelled c.in_ok-label.label (chosen refl (yes c.at_directive.ensures c.if-at_directive.true)) c.in_ok-label.ensures.parsed h) (λ e h. (s.symbol (s.left (chosen refl (yes c.at_directive.ensures c.if-at_directive.true)) (s.next _ (label-some c.in_ok-label.label c.in_ok-label.ensures.parsed).1 h))))

pub returns-else-at_directive-clause-parsed : goal.returns-else-at_directive-clause-parsed
returns-else-at_directive-clause-parsed c = pass (tree_by statement_node P.Declaration) (tree_by statement_node P.Statement) (Sym P.Declaration) (Sym P.Statement) _ _ _ _ c.declaration.ensures.parsed (λ x h. (r.symbol (r.right (other (no c.at_directive.ensures c.if-at_directive.false)) h) refl)) (λ e h. (s.symbol (s.right (other (no c.at_directive.ensures c.if-at_directive.false)) h)))
