use Rattle.std.proofs.Common.{[], Result, List, subst}
use Rattle.psl_tree.specs.declared.directive.Directive.{Directive}
use Rattle.psl_layer_theory.specs.declared.fault.LayerFault.{LayerFault}
use Rattle.psl_layer.specs.Asked.{IsLonger}
use Rattle.psl_layer.proofs.Longer.{list_more, longer_err}
use Rattle.psl_layer.proofs.asked.with_list.Goals as goal

pub returns-in-Ok : goal.returns-in-Ok
returns-in-Ok c = λ wanted done all gives asked made.
    list_more done all c.in-Ok.unit c.with_all_asked.result (c.with_all_asked.ensures wanted all gives asked)
    (subst (λ (built : Result (List Directive) LayerFault). IsLonger [] done built) c.in-Ok.is made)

pub returns-in-Err : goal.returns-in-Err
returns-in-Err c = λ wanted done all gives asked made.
    longer_err [] done all c.in-Err.fault (subst (λ (built : Result (List Directive) LayerFault). IsLonger [] done built) c.in-Err.is made)
