use Rattle.std.proofs.Common.{sym, false}
use Rattle.psl_layer_theory.specs.Kernel.{meaning_of}
use Rattle.psl_layer.specs.Scopes.{named_in}
use Rattle.psl_layer.proofs.Owned.{unowned-asserted}
use Rattle.psl_layer.proofs.expressions.Context.asserted.Goals as goal

pub returns-clause-form : goal.returns-clause-form
returns-clause-form c = λ wanted.
    let meaning = meaning_of (named_in c.args.self.now.names.now c.args.self.now.scope.now.before.now) c.args.self.now.names.now false c.args.property.now in
    (meaning, c.into_meaning-meaning.ensures meaning (rw c.into_inner-sense.ensures c.in_ok-elaborate.ensures.built), sym (unowned-asserted wanted meaning c.args.property.now c.in_default.not-Clocked))
