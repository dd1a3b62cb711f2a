use Rattle.std.proofs.Common.{refl}
use Rattle.psl_grammar.specs.Surface.{unit_node}
use Rattle.psl_grammar.specs.Parts.{Sym}
use Rattle.psl_parser.proofs.Exits.{exit, spent, tree_by}
use Rattle.psl_parser.proofs.Making.{binding-some, unit-made}
use Rattle.psl_parser.proofs.Taking.{taken, stopped}
use Rattle.psl_grammar.specs.Reading.{Reads as r, Stops as s}
use Rattle.psl_grammar.specs.Parts as P
use Rattle.psl_parser.proofs.parser.Parser.unit.Goals as goal

pub returns-in_err-take-clause-parsed : goal.returns-in_err-take-clause-parsed
returns-in_err-take-clause-parsed c = exit (tree_by unit_node P.Vunit) (Sym P.Vunit) _ _ c.from_residual.ensures.1 (s.symbol (s.first (stopped c.in_err-take.ensures.took)))

pub returns-in_err-name-clause-parsed : goal.returns-in_err-name-clause-parsed
returns-in_err-name-clause-parsed c = exit (tree_by unit_node P.Vunit) (Sym P.Vunit) _ _ c.from_residual-in_err-name.ensures.1 (s.symbol (s.next _ (taken c.in_ok-take.ensures.took) (s.first (stopped c.in_err-name.ensures.took))))

pub returns-in_err-binding-clause-parsed : goal.returns-in_err-binding-clause-parsed
returns-in_err-binding-clause-parsed c = exit (tree_by unit_node P.Vunit) (Sym P.Vunit) _ _ c.from_residual-in_err-binding.ensures.1 (s.symbol (s.next _ (taken c.in_ok-take.ensures.took) (s.next _ (taken c.in_ok-name.ensures.took) (s.first c.in_err-binding.ensures.parsed))))

pub returns-in_err-take-2-clause-parsed : goal.returns-in_err-take-2-clause-parsed
returns-in_err-take-2-clause-parsed c = exit (tree_by unit_node P.Vunit) (Sym P.Vunit) _ _ c.from_residual-in_err-take-2.ensures.1 (s.symbol (s.next _ (taken c.in_ok-take.ensures.took) (s.next _ (taken c.in_ok-name.ensures.took) (s.next _ (binding-some c.in_ok-binding.binding c.in_ok-binding.ensures.parsed).1 (s.first (stopped c.in_err-take-2.ensures.took))))))

pub returns-in_err-statements-clause-parsed : goal.returns-in_err-statements-clause-parsed
returns-in_err-statements-clause-parsed c = exit (tree_by unit_node P.Vunit) (Sym P.Vunit) _ _ c.from_residual-in_err-statements.ensures.1 (s.symbol (s.next _ (taken c.in_ok-take.ensures.took) (s.next _ (taken c.in_ok-name.ensures.took) (s.next _ (binding-some c.in_ok-binding.binding c.in_ok-binding.ensures.parsed).1 (s.next _ (taken c.in_ok-take-2.ensures.took) (s.first c.in_err-statements.ensures.parsed))))))

pub returns-in_err-take-3-clause-parsed : goal.returns-in_err-take-3-clause-parsed
returns-in_err-take-3-clause-parsed c = exit (tree_by unit_node P.Vunit) (Sym P.Vunit) _ _ c.from_residual-in_err-take-3.ensures.1 (s.symbol (s.next _ (taken c.in_ok-take.ensures.took) (s.next _ (taken c.in_ok-name.ensures.took) (s.next _ (binding-some c.in_ok-binding.binding c.in_ok-binding.ensures.parsed).1 (s.next _ (taken c.in_ok-take-2.ensures.took) (s.next _ c.in_ok-statements.ensures.parsed (stopped c.in_err-take-3.ensures.took)))))))

pub returns-in_err-name-2-clause-parsed : goal.returns-in_err-name-2-clause-parsed
returns-in_err-name-2-clause-parsed c = spent (tree_by unit_node P.Vunit) (Sym P.Vunit) _ _ _ _ c.from_residual-in_err-name-2.ensures.1 c.in_err-name-2.ensures

pub returns-clause-parsed : goal.returns-clause-parsed
returns-clause-parsed c = unit-made c.in_ok-take-3.field-0.now c.in_ok-binding.binding c.in_ok-statements.statements c.in_ok-name-2.ensures (taken c.in_ok-take.ensures.took) (taken c.in_ok-name.ensures.took) c.in_ok-binding.ensures.parsed (r.both (taken c.in_ok-take-2.ensures.took) (r.both c.in_ok-statements.ensures.parsed (taken c.in_ok-take-3.ensures.took) refl) refl)
