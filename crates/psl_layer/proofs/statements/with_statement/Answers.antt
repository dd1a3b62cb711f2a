use Rattle.std.proofs.Common.{List, [], ◌++◌, refl, sym, subst, ◌∙◌}
use Rattle.std.proofs.lemmas.List.{append-nil}
use Rattle.psl_grammar.specs.declared.tree.Statement.TheVariants as statements
use Rattle.psl_layer_theory.specs.Directives.{Asked, asked_after, asked_by}
use Rattle.psl_layer.specs.Asked.{AskAll}
use Rattle.psl_layer.specs.Scopes.{named_in}
use Rattle.psl_layer.specs.declared.asked.Asked as code_asked
use Rattle.psl_layer.proofs.Growing.{behind_is, read_more, stands_asked}
use Rattle.psl_layer.proofs.Longer.{ask_more}
use Rattle.psl_layer.proofs.statements.with_statement.Goals as goal

pub returns-in_ok-push-in-Directive-clause-read : goal.returns-in_ok-push-in-Directive-clause-read
returns-in_ok-push-in-Directive-clause-read c =
    let names = c.args.names.now in
    let before = c.args.reading.scope.before.now in
    let read = c.in_ok-read-in-Directive.read in
    let statement = statements.Directive c.in-Directive.label c.in-Directive.word c.in-Directive.property c.in-Directive.report in
    let begins = behind_is c.args.all.now before c.args.place c.index-all-place.result statement c.requires.before c.requires.inside c.index-all-place.is c.in-Directive.is in
    read_more names c.args.reading _ statement read.flaw begins
    (stands_asked c.args.reading.scope _ names c.in-Directive.label c.in-Directive.word c.in-Directive.property c.in-Directive.report begins refl refl c.requires.read.scope)
    (λ clock.
    subst (λ (items : List code_asked.Asked). AskAll clock items (asked_after [] names clock before ++ asked_by (named_in names before) names clock statement))
    (sym c.in_ok-push-in-Directive.ensures.items)
    (ask_more clock c.args.reading.asked.items read.asked (asked_after [] names clock before) _ (c.requires.read.asked clock) (c.in_ok-read-in-Directive.ensures.asked clock)))
    c.in_ok-read-in-Directive.ensures.flaw c.earlier-flaw.ensures c.requires.read

pub returns-in_ok-scope-in-Declaration-clause-read : goal.returns-in_ok-scope-in-Declaration-clause-read
returns-in_ok-scope-in-Declaration-clause-read c =
    let names = c.args.names.now in
    let before = c.args.reading.scope.before.now in
    let statement = statements.Declaration c.in-Declaration.word c.in-Declaration.name c.in-Declaration.body in
    let begins = behind_is c.args.all.now before c.args.place c.index-all-place.result statement c.requires.before c.requires.inside c.index-all-place.is c.in-Declaration.is in
    let grown = c.in_ok-scope-in-Declaration.ensures names c.in-Declaration.body begins c.requires.read.scope c.in_ok-read-in-Declaration.ensures.meaning in
    read_more names c.args.reading _ statement c.in_ok-read-in-Declaration.read.flaw (grown.1 ∙ begins) grown.0
    (λ clock.
    subst (λ (all : List Asked). AskAll clock c.args.reading.asked.items all) (sym (append-nil (asked_after [] names clock before))) (c.requires.read.asked clock))
    c.in_ok-read-in-Declaration.ensures.flaw c.earlier-flaw-in-Declaration.ensures c.requires.read
