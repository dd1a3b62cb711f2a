use Rattle.std.proofs.Common.{refl, [], ◌∷◌}
use Rattle.psl_grammar.specs.Surface.{node_of, statement_node}
use Rattle.psl_parser.specs.Pieces.{declares, GaveBy}
use Rattle.psl_grammar.specs.Trees.{Tok, Tree, built}
use Rattle.psl_parser.proofs.Exits.{exit, made-statement}
use Rattle.psl_parser.proofs.Taking.{taken, stopped}
use Rattle.psl_grammar.specs.Reading.{Reads as r, Stops as s}
use Rattle.psl_grammar.specs.Parts as P
use Rattle.psl_parser.proofs.parser.Parser.declared.Goals as goal

pub returns-in_err-word-clause-parsed : goal.returns-in_err-word-clause-parsed
returns-in_err-word-clause-parsed c = exit (GaveBy statement_node (built P.Declaration) (declares c.args.word c.args.name)) (declares c.args.word c.args.name) _ _ c.from_residual.ensures.1 (s.first (stopped c.in_err-word.ensures.took))

pub returns-in_err-name-clause-parsed : goal.returns-in_err-name-clause-parsed
returns-in_err-name-clause-parsed c = exit (GaveBy statement_node (built P.Declaration) (declares c.args.word c.args.name)) (declares c.args.word c.args.name) _ _ c.from_residual-in_err-name.ensures.1 (s.next _ (taken c.in_ok-word.ensures.took) (s.first (stopped c.in_err-name.ensures.took)))

pub returns-in_err-take-clause-parsed : goal.returns-in_err-take-clause-parsed
returns-in_err-take-clause-parsed c = exit (GaveBy statement_node (built P.Declaration) (declares c.args.word c.args.name)) (declares c.args.word c.args.name) _ _ c.from_residual-in_err-take.ensures.1 (s.next _ (taken c.in_ok-word.ensures.took) (s.next _ (taken c.in_ok-name.ensures.took) (s.first (stopped c.in_err-take.ensures.took))))

pub returns-in_err-body-clause-parsed : goal.returns-in_err-body-clause-parsed
returns-in_err-body-clause-parsed c = exit (GaveBy statement_node (built P.Declaration) (declares c.args.word c.args.name)) (declares c.args.word c.args.name) _ _ c.from_residual-in_err-body.ensures.1 (s.next _ (taken c.in_ok-word.ensures.took) (s.next _ (taken c.in_ok-name.ensures.took) (s.next _ (taken c.in_ok-take.ensures.took) (s.first c.in_err-body.ensures.parsed))))

pub returns-in_err-take-2-clause-parsed : goal.returns-in_err-take-2-clause-parsed
returns-in_err-take-2-clause-parsed c = exit (GaveBy statement_node (built P.Declaration) (declares c.args.word c.args.name)) (declares c.args.word c.args.name) _ _ c.from_residual-in_err-take-2.ensures.1 (s.next _ (taken c.in_ok-word.ensures.took) (s.next _ (taken c.in_ok-name.ensures.took) (s.next _ (taken c.in_ok-take.ensures.took) (s.next _ c.in_ok-body.ensures.parsed (stopped c.in_err-take-2.ensures.took)))))

pub returns-clause-parsed : goal.returns-clause-parsed
returns-clause-parsed c = made-statement (GaveBy statement_node (built P.Declaration) (declares c.args.word c.args.name)) (declares c.args.word c.args.name) _ _ c.declaration.ensures (λ x h. record { items = Tok c.in_ok-word.word.now ∷ Tok c.in_ok-name.name.now ∷ Tok c.in_ok-take.field-0.now ∷ Tree (node_of c.in_ok-body.body.tree.value) ∷ Tok c.in_ok-take-2.field-0.now ∷ []; same = h; reads = (r.both (taken c.in_ok-word.ensures.took) (r.both (taken c.in_ok-name.ensures.took) (r.both (taken c.in_ok-take.ensures.took) (r.both c.in_ok-body.ensures.parsed (taken c.in_ok-take-2.ensures.took) refl) refl) refl) refl) })
