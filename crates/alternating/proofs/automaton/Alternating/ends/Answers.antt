use Rattle.std.proofs.Common.{◌∙◌, ap, List, [], map}
use Rattle.psl_tree.specs.Followed.{Nothing}
use Rattle.alternating_theory.specs.Obligations.{Automaton, Obligation}
use Rattle.alternating.specs.Stepped.{values_of}
use Rattle.alternating.specs.Views.{obligations_of_code}
use Rattle.alternating.specs.declared.obligation.Obligation as code_obligation
use Rattle.alternating.proofs.automaton.Alternating.ends.Goals as goal

pub returns : goal.returns
returns c =
    c.fill.ensures
    ∙ ap (λ (l : List code_obligation.Obligation). map (λ (o : Obligation). o.end) (obligations_of_code l)) c.as_slice.ensures.value
    ∙ ap (λ (a : Automaton). values_of a Nothing []) c.self.view_is
