use Rattle.std.proofs.Common.{refl, sym}
use Rattle.psl_grammar.specs.Surface.{statement_node}
use Rattle.psl_grammar.specs.Parts.{Sym}
use Rattle.psl_parser.specs.Pieces.{declares, GaveBy}
use Rattle.psl_grammar.specs.Trees.{built}
use Rattle.psl_parser.proofs.Exits.{pass, tree_by}
use Rattle.psl_parser.proofs.Forms.{yes, no, node}
use Rattle.psl_parser.proofs.Taking.{chosen, other}
use Rattle.psl_grammar.specs.Reading.{Reads as r, Stops as s}
use Rattle.psl_grammar.specs.Parts as P
use Rattle.psl_lexer.specs.declared.kind.TokenKind.TheVariants as kinds
use Rattle.psl_parser.proofs.parser.Parser.declaration.Goals as goal

pub returns-then-at-clause-parsed : goal.returns-then-at-clause-parsed
returns-then-at-clause-parsed c = pass (GaveBy statement_node (built P.Declaration) (declares kinds.Sequence kinds.Name)) (tree_by statement_node P.Declaration) (declares kinds.Sequence kinds.Name) (Sym P.Declaration) _ _ _ _ c.declared.ensures.parsed (λ x h. (r.symbol (r.left (chosen refl (yes c.at.ensures c.if-at.true)) h.reads) (node (sym h.same)))) (λ e h. (s.symbol (s.left (chosen refl (yes c.at.ensures c.if-at.true)) h)))

pub returns-then-at-2-clause-parsed : goal.returns-then-at-2-clause-parsed
returns-then-at-2-clause-parsed c = pass (GaveBy statement_node (built P.Declaration) (declares kinds.Property kinds.Name)) (tree_by statement_node P.Declaration) (declares kinds.Property kinds.Name) (Sym P.Declaration) _ _ _ _ c.declared-then-at-2.ensures.parsed (λ x h. (r.symbol (r.right (other (no c.at.ensures c.if-at.false)) (r.left (chosen refl (yes c.at-else-at.ensures c.if-at-2.true)) h.reads)) (node (sym h.same)))) (λ e h. (s.symbol (s.right (other (no c.at.ensures c.if-at.false)) (s.left (chosen refl (yes c.at-else-at.ensures c.if-at-2.true)) h))))

pub returns-else-at-2-clause-parsed : goal.returns-else-at-2-clause-parsed
returns-else-at-2-clause-parsed c = pass (GaveBy statement_node (built P.Declaration) (declares kinds.Default kinds.Clock)) (tree_by statement_node P.Declaration) (declares kinds.Default kinds.Clock) (Sym P.Declaration) _ _ _ _ c.declared-else-at-2.ensures.parsed (λ x h. (r.symbol (r.right (other (no c.at.ensures c.if-at.false)) (r.right (other (no c.at-else-at.ensures c.if-at-2.false)) h.reads)) (node (sym h.same)))) (λ e h. (s.symbol (s.right (other (no c.at.ensures c.if-at.false)) (s.right (other (no c.at-else-at.ensures c.if-at-2.false)) h))))
