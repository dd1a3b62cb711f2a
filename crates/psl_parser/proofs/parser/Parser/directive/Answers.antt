use Rattle.psl_grammar.specs.Parts.{Sym}
use Rattle.psl_parser.specs.Pieces.{ReadsDirective}
use Rattle.psl_parser.proofs.Exits.{exit, made-statement}
use Rattle.psl_parser.proofs.Making.{report-some, directive-made}
use Rattle.psl_parser.proofs.Taking.{taken, stopped}
use Rattle.psl_grammar.specs.Reading.{Stops as s}
use Rattle.psl_grammar.specs.Parts as P
use Rattle.psl_parser.proofs.parser.Parser.directive.Goals as goal

pub returns-in_err-word-clause-parsed : goal.returns-in_err-word-clause-parsed
returns-in_err-word-clause-parsed c = exit (ReadsDirective c.args.label) (Sym P.Directive) _ _ c.from_residual.ensures.1 (s.symbol (s.first (stopped c.in_err-word.ensures.took)))

pub returns-in_err-property-clause-parsed : goal.returns-in_err-property-clause-parsed
returns-in_err-property-clause-parsed c = exit (ReadsDirective c.args.label) (Sym P.Directive) _ _ c.from_residual-in_err-property.ensures.1 (s.symbol (s.next _ (taken c.in_ok-word.ensures.took) (s.first c.in_err-property.ensures.parsed)))

pub returns-in_err-report-clause-parsed : goal.returns-in_err-report-clause-parsed
returns-in_err-report-clause-parsed c = exit (ReadsDirective c.args.label) (Sym P.Directive) _ _ c.from_residual-in_err-report.ensures.1 (s.symbol (s.next _ (taken c.in_ok-word.ensures.took) (s.next _ c.in_ok-property.ensures.parsed (s.first c.in_err-report.ensures.parsed))))

pub returns-in_err-take-clause-parsed : goal.returns-in_err-take-clause-parsed
returns-in_err-take-clause-parsed c = exit (ReadsDirective c.args.label) (Sym P.Directive) _ _ c.from_residual-in_err-take.ensures.1 (s.symbol (s.next _ (taken c.in_ok-word.ensures.took) (s.next _ c.in_ok-property.ensures.parsed (s.next _ (report-some c.in_ok-report.report c.in_ok-report.ensures.parsed).1 (stopped c.in_err-take.ensures.took)))))

pub returns-clause-parsed : goal.returns-clause-parsed
returns-clause-parsed c = made-statement (ReadsDirective c.args.label) (Sym P.Directive) _ _ c.directive.ensures (λ x h. record { node = _; same = h; reads = directive-made c.in_ok-report.report (taken c.in_ok-word.ensures.took) c.in_ok-property.ensures.parsed c.in_ok-report.ensures.parsed (taken c.in_ok-take.ensures.took) })
