use Rattle.std.proofs.Common.{sym, subst, false, Some}
use Rattle.psl_grammar.specs.declared.tree.Expression as code_expression
use Rattle.psl_sugar.specs.Budget.{GivesFormula}
use Rattle.psl_layer_theory.specs.Directives.{cover_formula}
use Rattle.psl_layer_theory.specs.Kernel.{boolean_in, meaning_of}
use Rattle.psl_layer.specs.Scopes.{named_in}
use Rattle.psl_layer.proofs.Owned.{unowned-covered}
use Rattle.psl_layer.proofs.expressions.Context.covered.Goals as goal

pub returns-in-Clocked-clause-form : goal.returns-in-Clocked-clause-form
returns-in-Clocked-clause-form c = λ wanted.
    let named = named_in c.args.self.now.names.now c.args.self.now.scope.now.before.now in
    let own = meaning_of named c.args.self.now.names.now false c.in-Clocked.own.value in
    let part = meaning_of named c.args.self.now.names.now false c.in-Clocked.x.value in
    subst (λ (p : code_expression.Expression). GivesFormula c.covered_under.result (cover_formula named c.args.self.now.names.now wanted p)) (sym c.in-Clocked.is)
    (c.covered_under.ensures (Some (boolean_in own)) part
    (c.into_boolean-clock.ensures own (c.into_meaning.ensures own (rw c.into_inner-own.ensures (rw c.deref-in-Clocked.ensures at c.in_ok-elaborate-2.ensures.built))))
    (c.into_meaning-part.ensures part (rw c.into_inner-x.ensures (rw c.deref.ensures at c.in_ok-elaborate.ensures.built))))

pub returns-clause-form : goal.returns-clause-form
returns-clause-form c = λ wanted.
    let meaning = meaning_of (named_in c.args.self.now.names.now c.args.self.now.scope.now.before.now) c.args.self.now.names.now false c.args.property.now in
    (meaning, c.into_meaning-2.ensures meaning (rw c.into_inner-sense.ensures c.in_ok-elaborate-3.ensures.built), sym (unowned-covered (named_in c.args.self.now.names.now c.args.self.now.scope.now.before.now) c.args.self.now.names.now wanted c.args.property.now c.in_default.not-Clocked))
