use Rattle.std.proofs.Common.{◌≡◌, ap, ◌∙◌, sym, subst, List, length, arith}
use Rattle.psl_tree.specs.Trees.{formula_of}
use Rattle.alternating_theory.specs.Built.{unmerged}
use Rattle.alternating_theory.specs.Laws.{NamesOf}
use Rattle.alternating_theory.specs.Merged.{merged}
use Rattle.alternating_theory.specs.Obligations.{Automaton}
use Rattle.alternating_theory.proofs.Built.{unmerged-names}
use Rattle.alternating.specs.Views.{obligations_of_code}
use Rattle.alternating.specs.declared.obligation.Obligation as code_obligation
use Rattle.alternating.proofs.Merging.{automaton_from}
use Rattle.alternating.proofs.automaton.finished.Goals as goal

pub merged-requires-clause-names : goal.merged-requires-clause-names
merged-requires-clause-names c =
    let same : automaton_from c.whole.inside.start (obligations_of_code c.whole.inside.obligations.items) ≡ unmerged (formula_of c.args.f.now) = c.whole.view_is ∙ c.in_ok-whole.ensures in
    subst (λ (l : List code_obligation.Obligation). NamesOf (automaton_from c.whole.inside.start (obligations_of_code l))) (sym c.as_slice.ensures.value)
    (subst (λ (a : Automaton). NamesOf a) (sym same) (unmerged-names (formula_of c.args.f.now) c.requires.plain))

pub merged-requires-clause-room : goal.merged-requires-clause-room
merged-requires-clause-room c =
    let many : length c.as_slice.result.now ≡ length c.whole.inside.obligations.items = ap (λ (l : List code_obligation.Obligation). length l) c.as_slice.ensures.value in
    omega (arith, many, c.whole.invariant.few)

pub returns : goal.returns
returns c =
    let same : automaton_from c.whole.inside.start (obligations_of_code c.whole.inside.obligations.items) ≡ unmerged (formula_of c.args.f.now) = c.whole.view_is ∙ c.in_ok-whole.ensures in
    c.in_ok-found.ensures
    ∙ ap (λ (l : List code_obligation.Obligation). merged (automaton_from c.whole.inside.start (obligations_of_code l))) c.as_slice.ensures.value
    ∙ ap (λ (a : Automaton). merged a) same
