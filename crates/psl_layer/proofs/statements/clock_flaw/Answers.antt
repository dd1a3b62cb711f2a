use Rattle.std.proofs.Common.{Bool, ap, ◌∙◌}
use Rattle.psl_layer_theory.specs.FirstFlaw.{first_of}
use Rattle.psl_layer_theory.specs.Flaws.{flaw_where}
use Rattle.psl_layer_theory.specs.declared.fault.Cause.TheVariants as causes
use Rattle.psl_layer.proofs.Scopes.{stands_clock}
use Rattle.psl_layer.proofs.statements.clock_flaw.Goals as goal

pub returns : goal.returns
returns c =
    c.flaw_where.ensures
    ∙ ap (λ (test : Bool). first_of (flaw_where test causes.DeclaredTwice c.args.word.now.place))
    (c.is_some-is_declared.ensures ∙ stands_clock c.args.context.now.scope.now c.args.context.now.names.now c.requires)
