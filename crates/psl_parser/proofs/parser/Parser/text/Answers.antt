use Rattle.std.proofs.Common.{refl, sym, ap}
use Rattle.psl_grammar.specs.Surface.{tree_node}
use Rattle.psl_grammar.specs.Parts.{Sym}
use Rattle.psl_grammar.specs.Trees.{Whole}
use Rattle.psl_parser.proofs.Exits.{exit, tree_by}
use Rattle.psl_parser.proofs.Forms.{yes, no, node, some-read, some-stop}
use Rattle.psl_parser.proofs.Making.{listed-statements, listed-units}
use Rattle.psl_parser.proofs.Taking.{chosen, other}
use Rattle.psl_grammar.specs.Reading.{Reads as r, Stops as s}
use Rattle.psl_grammar.specs.Parts as P
use Rattle.psl_parser.proofs.parser.Parser.text.Goals as goal

pub returns-in_err-units-clause-parsed : goal.returns-in_err-units-clause-parsed
returns-in_err-units-clause-parsed c = exit (tree_by tree_node P.Text) (Sym P.Text) _ _ c.from_residual.ensures.1 (s.symbol (s.left (chosen refl (yes c.at.ensures c.if-at.true)) (some-stop c.in_err-units.ensures.parsed)))

pub returns-then-at-clause-parsed : goal.returns-then-at-clause-parsed
returns-then-at-clause-parsed c = r.symbol (r.left (chosen refl (yes c.at.ensures c.if-at.true)) (some-read (record { holds = (yes c.at.ensures c.if-at.true) }) c.in_ok-units.ensures.parsed)) (node (ap Whole (sym (listed-units c.in_ok-units.units))))

pub returns-in_err-statements-clause-parsed : goal.returns-in_err-statements-clause-parsed
returns-in_err-statements-clause-parsed c = exit (tree_by tree_node P.Text) (Sym P.Text) _ _ c.from_residual-in_err-statements.ensures.1 (s.symbol (s.right (other (no c.at.ensures c.if-at.false)) c.in_err-statements.ensures.parsed))

pub returns-clause-parsed : goal.returns-clause-parsed
returns-clause-parsed c = r.symbol (r.right (other (no c.at.ensures c.if-at.false)) c.in_ok-statements.ensures.parsed) (node (ap Whole (sym (listed-statements c.in_ok-statements.statements))))
